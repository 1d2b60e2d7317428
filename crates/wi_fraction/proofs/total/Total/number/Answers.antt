use Rattle.wi_fraction.proofs.Vocabulary.{◌≡◌, ◌∙◌, FitsSigned, rules, w128, to_z-of_z, number_of, with_minus, unsigned_abs, int_lt, pos}
use Rattle.wi_fraction.proofs.Totals.{told}
use Rattle.wi_fraction.proofs.total.Total.number.Goals as goal

pub returns : goal.returns
returns c =
    let i = c.self.inside in
    let fits : FitsSigned w128 c.get-numerator.result = search rules in
    let reduced = simp to_z-of_z at c.reduced.ensures in
    let found : c.reduced.result ≡ number_of (with_minus (int_lt c.get-numerator.result (pos 0)) c.unsigned_abs.result) c.get.result = search reduced in
    let size : c.unsigned_abs.result ≡ unsigned_abs c.get-numerator.result = simp to_z-of_z at c.unsigned_abs.ensures.value in
    told i.numerator i.denominator c.reduced.result c.small.result c.unwrap_or.result c.self.invariant (rw (size, c.get-numerator.ensures, c.get.ensures) at found) c.unwrap_or.ensures ∙ c.self.view_is
