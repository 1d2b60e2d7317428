use Rattle.wi_fraction.proofs.Vocabulary.{◌∙◌}
use Rattle.wi_fraction.proofs.words.Unsigned.get.Goals as goal

pub returns : goal.returns
returns c = c.joined.ensures ∙ c.self.view_is
