use Rattle.wi_worlds.proofs.Words.{rules}
use Rattle.wi_worlds.proofs.world.is_reached.Goals as goal

pub returns : goal.returns
returns c = search rules
