use Rattle.wi_fraction.proofs.Vocabulary.{rules, ◌∙◌, sym, FitsSigned, w128, to_z-of_z}
use Rattle.wi_fraction.proofs.Steps.{like_sum_some, like_sum_none, with_minus-abs}
use Rattle.wi_fraction.proofs.Fraction.like_sum.Goals as goal

pub returns-in_err-total : goal.returns-in_err-total
returns-in_err-total c =
    let fits1 : FitsSigned w128 c.parts-a.result.numerator = search rules in
    let fits2 : FitsSigned w128 c.parts.result.numerator = search rules in
    rw (← c.parts-a.ensures, ← c.parts.ensures)
    (c.from_residual.ensures ∙ like_sum_none _ _ (rw (← c.parts-a.ensures, ← c.parts.ensures) at c.requires) (simp to_z-of_z at (sym c.in_err-total.was ∙ c.total.ensures)))

pub returns : goal.returns
returns c =
    let fits1 : FitsSigned w128 c.parts-a.result.numerator = search rules in
    let fits2 : FitsSigned w128 c.parts.result.numerator = search rules in
    let fits3 : FitsSigned w128 c.in_ok-total.total = search rules in
    rw (← c.parts-a.ensures, ← c.parts.ensures)
    (like_sum_some _ _ c.in_ok-total.total _ (rw (← c.parts-a.ensures, ← c.parts.ensures) at c.requires)
    (simp to_z-of_z at c.in_ok-total.ensures)
    (c.reduced.ensures ∙ rw c.unsigned_abs.ensures.value (simp (to_z-of_z, with_minus-abs))))
