use Rattle.wi_fraction.proofs.Vocabulary.{◌≡◌, ◌*ℤ◌, pos, FitsSigned, rules, w128, to_z-of_z, number_in}
use Rattle.wi_fraction.proofs.Totals.{small_scaled}
use Rattle.wi_fraction.proofs.total.small_scaled_sum.Goals as goal

pub returns : goal.returns
returns c =
    let fits : FitsSigned w128 c.parts-numerator.result.numerator = search rules in
    let fits_n : FitsSigned w128 c.args.n = search rules in
    let fits_c : FitsSigned w128 c.in_ok-short_product.field-0 = search rules in
    let by : c.from.result ≡ pos c.in_ok-by.by = search rules in
    let fits_by : FitsSigned w128 c.from.result = search rules in
    let multiple = rw by at (simp to_z-of_z at c.in_ok-short_product.ensures) in
    let times : c.in_ok-short_product.field-0 ≡ c.parts-numerator.result.numerator *ℤ pos c.in_ok-by.by = search multiple in
    small_scaled c.args.n c.args.d c.args.other.now (number_in c.parts-numerator.result) c.in_ok-by.by c.in_ok-short_product.field-0 c.total_with_small.result c.requires c.parts-numerator.ensures
    c.in_ok-by.ensures.0 c.in_ok-by.ensures.1 times multiple.1 (simp to_z-of_z at c.total_with_small.ensures)
