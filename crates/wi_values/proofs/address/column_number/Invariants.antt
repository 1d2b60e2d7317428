use Rattle.wi_values.proofs.Words.{◌≡◌, ◌+◌, ◌≤◌, min, drop, columns, letters_value}
use Rattle.wi_values.proofs.Spelling.{letters_value_after}
use Rattle.wi_values.proofs.address.column_number.Given as goal

abbrev pub invariant-loop-letter : goal.invariant-loop-letter
invariant-loop-letter l =
    (l.number ≤ columns + 1) × (min (letters_value_after l.number (drop l.letter-index l.letters)) (columns + 1) ≡ min (letters_value l.letters) (columns + 1))
