use Rattle.wi_fraction.proofs.Neighbours.{is_rounded}
use Rattle.wi_fraction.proofs.laws.rounded_are_near.Goals as goal

pub returns : goal.returns
returns c = is_rounded
