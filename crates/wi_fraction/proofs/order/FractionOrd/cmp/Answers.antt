use Rattle.wi_fraction.proofs.Vocabulary.{◌∙◌, FitsSigned, arith, rules, common_steps, to_z-of_z, w128, number_in}
use Rattle.wi_fraction.proofs.Sizes.{like_cmp}
use Rattle.wi_fraction.proofs.order.FractionOrd.cmp.Goals as goal

pub returns-then-b-d : goal.returns-then-b-d
returns-then-b-d c =
    let fits1 : FitsSigned w128 c.parts-m.result.numerator = search rules in
    let fits2 : FitsSigned w128 c.parts-n.result.numerator = search rules in
    rw (← c.parts-m.ensures, ← c.parts-n.ensures)
    ((simp to_z-of_z at c.cmp.ensures) ∙ like_cmp (number_in c.parts-m.result) (number_in c.parts-n.result) c.if-b-d.true)

pub returns-in-true-true : goal.returns-in-true-true
returns-in-true-true c = grind (arith, common_steps)
