use Rattle.wi_fraction.proofs.Vocabulary.{◌≡◌, ◌/◌, FitsSigned, rules, w128, to_z-of_z, number_in}
use Rattle.wi_fraction.proofs.Totals.{scaled_sum}
use Rattle.wi_fraction.proofs.total.scaled_with.Goals as goal

pub returns : goal.returns
returns c =
    let fits : FitsSigned w128 c.parts-numerator.result.numerator = search rules in
    let fits_n : FitsSigned w128 c.args.n = search rules in
    let fits_c : FitsSigned w128 c.in_ok-scaled.field-0 = search rules in
    let times : c.divide.result ≡ c.args.d / c.parts-numerator.result.denominator = search rules in
    scaled_sum c.args.n c.args.d c.args.other.now (number_in c.parts-numerator.result) c.remainder.result c.divide.result c.in_ok-scaled.field-0 c.total.result c.requires c.parts-numerator.ensures
    c.remainder.ensures c.if-remainder-ne0.false times (simp to_z-of_z at c.in_ok-scaled.ensures) (simp to_z-of_z at c.total.ensures)
