use Rattle.std.proofs.Common.{◌≡◌, ◌≤◌, take}
use Rattle.wi_fraction.proofs.Vocabulary.{digits_value, max_size}
use Rattle.wi_fraction.proofs.digits.Digits.whole_number.Given as goal

abbrev pub invariant-loop-i : goal.invariant-loop-i
invariant-loop-i l = (l.value ≡ digits_value 10 (take l.i l.self)) × (l.value ≤ max_size)
