use Rattle.wi_fraction.proofs.Vocabulary.{◌∙◌, FitsSigned, rules, w128, cast_unsigned, to_z-of_z, from_halves}
use Rattle.std.proofs.Common.{◌≡◌, refl}
use Rattle.wi_fraction.proofs.words.Signed.new.Goals as goal

pub returns : goal.returns
returns c =
    let fits : FitsSigned w128 c.args.n = search rules in
    let bits : c.cast_unsigned-bits.result ≡ cast_unsigned w128 c.args.n = c.cast_unsigned-bits.ensures ∙ simp to_z-of_z refl in
    rw (c.high_half.ensures, c.low_half.ensures, from_halves c.cast_unsigned-bits.result, bits) (to_z-of_z w128 c.args.n fits)
