use Rattle.wi_cli.proofs.Vocabulary.{◌≡◌, ◌≤◌, min, drop, all_ascii_digits, digits_value, digits_value_after}
use Rattle.wi_cli.proofs.csv_line.number_of.Given as goal

abbrev pub invariant-loop-c : goal.invariant-loop-c
invariant-loop-c l =
    (l.number ≤ 1000001) × (min (digits_value_after 10 l.number (drop l.c-index l.digits)) 1000001 ≡ min (digits_value 10 l.digits) 1000001)
    × (all_ascii_digits (drop l.c-index l.digits) ≡ all_ascii_digits l.digits)
