use Rattle.wi_fraction.proofs.Vocabulary.{◌∙◌, FitsSigned, ap, rules, w128, to_z-of_z, Number, same_number}
use Rattle.wi_fraction.proofs.Fraction.parts.Goals as goal

pub invariant_of-result : goal.invariant_of-result
invariant_of-result c =
    let fits : FitsSigned w128 c.get.result = search rules in
    record { is_number = simp to_z-of_z (rw (c.get.ensures, c.get-2.ensures) c.self.inside.is_number) }

pub returns : goal.returns
returns c =
    let fits : FitsSigned w128 c.get.result = search rules in
    same_number _ c.args.self (simp to_z-of_z (c.get.ensures ∙ ap (λ (x : Number). x.num) c.self.view_is)) (c.get-2.ensures ∙ ap (λ (x : Number). x.den) c.self.view_is)
