use Rattle.wi_fraction.proofs.Vocabulary.{◌∙◌, rules, FitsSigned, w128, to_z-of_z, Number}
use Rattle.std.proofs.Common.{refl, ◌≡◌, unsigned_abs}
use Rattle.wi_fraction.proofs.Wholes.{rounded_from}
use Rattle.wi_fraction.proofs.Fraction.rounded.Goals as goal

pub returns : goal.returns
returns c =
    let fits : FitsSigned w128 c.parts-n.result.numerator = search rules in
    let size : c.unsigned_abs.result ≡ unsigned_abs c.parts-n.result.numerator = c.unsigned_abs.ensures.value ∙ simp to_z-of_z refl in
    let x : Number = record { num = c.parts-n.result.numerator; den = c.parts-n.result.denominator; is_number = c.parts-n.result.is_number } in
    let sign = simp to_z-of_z at c.whole.ensures.numerator in
    rw (← c.parts-n.ensures) (rounded_from c.args.mode x c.whole.result (sign ∙ rw (c.rounded_size.ensures.value, size) refl) c.whole.ensures.denominator)
