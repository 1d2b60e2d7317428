use Rattle.wi_fraction.proofs.Vocabulary.{◌≡◌, ap, rules, ◌∙◌, sym, FitsSigned, w128, to_z-of_z, number_of}
use Rattle.wi_fraction.proofs.Steps.{like_sum_some, like_sum_none, whole_number_of}
use Rattle.wi_fraction.proofs.Fraction.whole_sum.Goals as goal

pub returns-in_err-total : goal.returns-in_err-total
returns-in_err-total c =
    let fits1 : FitsSigned w128 c.parts.result.numerator = search rules in
    let fits2 : FitsSigned w128 c.parts-2.result.numerator = search rules in
    let same : c.args.self.den ≡ c.args.other.den = c.requires.first ∙ sym c.requires.second in
    rw (← c.parts.ensures, ← c.parts-2.ensures)
    (c.from_residual.ensures ∙ like_sum_none _ _ (rw (← c.parts.ensures, ← c.parts-2.ensures) at same) (simp to_z-of_z at (sym c.in_err-total.was ∙ c.total.ensures)))

pub returns : goal.returns
returns c =
    let fits1 : FitsSigned w128 c.parts.result.numerator = search rules in
    let fits2 : FitsSigned w128 c.parts-2.result.numerator = search rules in
    let fits3 : FitsSigned w128 c.in_ok-total.total = search rules in
    let same : c.args.self.den ≡ c.args.other.den = c.requires.first ∙ sym c.requires.second in
    let one = rw (← c.parts.ensures) at c.requires.first in
    rw (← c.parts.ensures, ← c.parts-2.ensures)
    (like_sum_some _ _ c.in_ok-total.total _ (rw (← c.parts.ensures, ← c.parts-2.ensures) at same)
    (simp to_z-of_z at c.in_ok-total.ensures)
    (whole_number_of c.in_ok-total.total c.integer.result (simp to_z-of_z at c.integer.ensures.numerator) c.integer.ensures.denominator ∙ ap (λ k. number_of c.in_ok-total.total k) (sym one)))
