use Rattle.wi_fraction.proofs.Vocabulary.{FitsSigned, rules, w128, to_z-of_z, same_number, number_in}
use Rattle.wi_fraction.proofs.Fraction.of.Goals as goal

pub invariant_of-result : goal.invariant_of-result
invariant_of-result c =
    let fits : FitsSigned w128 c.args.parts.numerator = search rules in
    let same = simp to_z-of_z at c.new.ensures in
    (rw (same, c.new-2.ensures) c.args.parts.is_number, tt)

pub returns : goal.returns
returns c =
    let fits : FitsSigned w128 c.args.parts.numerator = search rules in
    same_number _ (number_in c.args.parts) (simp to_z-of_z at c.new.ensures) c.new-2.ensures
