use Rattle.wi_fraction.proofs.Vocabulary.{FitsSigned, rules, w128, to_z-of_z, number_in}
use Rattle.wi_fraction.proofs.Totals.{small_like_sum}
use Rattle.wi_fraction.proofs.total.small_sum.Goals as goal

pub returns-then-denominator-d : goal.returns-then-denominator-d
returns-then-denominator-d c =
    let fits : FitsSigned w128 c.parts-numerator.result.numerator = search rules in
    let fits_n : FitsSigned w128 c.args.n = search rules in
    small_like_sum c.args.n c.args.d c.args.other.now (number_in c.parts-numerator.result) c.small_total.result c.requires c.parts-numerator.ensures c.if-denominator-d.true (simp to_z-of_z at c.small_total.ensures)
