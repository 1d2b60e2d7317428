use Rattle.wi_values.proofs.Words.{◌≡◌, ◌+◌, ◌≤◌, min, drop, digits_value, digits_value_after, rows}
use Rattle.wi_values.proofs.address.row_number.Given as goal

abbrev pub invariant-loop-c : goal.invariant-loop-c
invariant-loop-c l =
    (l.number ≤ rows + 1) × (min (digits_value_after 10 l.number (drop l.c-index l.digits)) (rows + 1) ≡ min (digits_value 10 l.digits) (rows + 1))
