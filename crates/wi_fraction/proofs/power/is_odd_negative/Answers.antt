use Rattle.wi_fraction.proofs.Vocabulary.{rules}
use Rattle.wi_fraction.proofs.power.is_odd_negative.Goals as goal

pub returns-then-n-lt0 : goal.returns-then-n-lt0
returns-then-n-lt0 c = search rules
