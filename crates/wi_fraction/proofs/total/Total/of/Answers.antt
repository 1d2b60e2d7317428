use Rattle.wi_fraction.proofs.Vocabulary.{◌≡◌, ap, ◌∙◌, FitsSigned, rules, w128, to_z-of_z, Number}
use Rattle.wi_fraction.proofs.Totals.{own_parts}
use Rattle.wi_fraction.proofs.total.Total.of.Goals as goal

pub returns : goal.returns
returns c =
    let fits : FitsSigned w128 c.parts-numerator.result.numerator = search rules in
    let kept : c.new.result ≡ c.parts-numerator.result.numerator = simp to_z-of_z at c.new.ensures in
    let over : c.new-2.result ≡ c.parts-numerator.result.denominator = search rules in
    own_parts c.args.number c.new.result c.new-2.result (kept ∙ ap (λ (x : Number). x.num) c.parts-numerator.ensures) (over ∙ ap (λ (x : Number). x.den) c.parts-numerator.ensures)
