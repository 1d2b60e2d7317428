use Rattle.wi_fraction.proofs.Vocabulary.{◌∙◌, ap, rules, w128, cast_signed, to_z-of_z}
use Rattle.wi_fraction.proofs.words.Signed.get.Goals as goal

pub returns : goal.returns
returns c =
    to_z-of_z w128 c.cast_signed.result (search rules) ∙ c.cast_signed.ensures ∙ ap (cast_signed w128) c.joined.ensures ∙ c.self.view_is
