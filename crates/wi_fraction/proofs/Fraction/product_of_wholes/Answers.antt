use Rattle.wi_fraction.proofs.Vocabulary.{◌≡◌, ◌*ℤ◌, rules, ◌∙◌, FitsSigned, w128, to_z-of_z}
use Rattle.wi_fraction.proofs.Steps.{whole_number_of}
use Rattle.wi_fraction.proofs.Fraction.product_of_wholes.Goals as goal

pub returns-in-Some : goal.returns-in-Some
returns-in-Some c =
    let fits1 : FitsSigned w128 c.parts-a.result.numerator = search rules in
    let fits2 : FitsSigned w128 c.parts-b.result.numerator = search rules in
    let fits3 : FitsSigned w128 c.in-Some.product = search rules in
    let first = rw (← c.parts-a.ensures) at c.requires.first in
    let second = rw (← c.parts-b.ensures) at c.requires.second in
    let told = simp to_z-of_z at c.in-Some.ensures.0 in
    let product : c.in-Some.product ≡ c.parts-a.result.numerator *ℤ c.parts-b.result.numerator = search told in
    rw (← c.parts-a.ensures, ← c.parts-b.ensures, first, second)
    (whole_number_of _ c.integer.result ((simp to_z-of_z at c.integer.ensures.numerator) ∙ product) c.integer.ensures.denominator)
