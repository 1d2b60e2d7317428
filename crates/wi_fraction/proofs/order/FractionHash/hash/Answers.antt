use Rattle.wi_fraction.proofs.Vocabulary.{rules}
use Rattle.wi_fraction.proofs.order.FractionHash.hash.Goals as goal

pub returns : goal.returns
returns g c = search rules
