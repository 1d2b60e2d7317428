use Rattle.std.proofs.Common.{◌≡◌, false, [], Some, drop}
use Rattle.wi_fraction.proofs.Vocabulary.{decimal_value}
use Rattle.wi_fraction.proofs.digits.Digits.decimal_part.Given as goal

abbrev pub invariant-loop-i : goal.invariant-loop-i
invariant-loop-i l = Some l.part ≡ decimal_value false [] (drop l.i l.self)
