use Rattle.wi_worlds.proofs.Words.{rules}
use Rattle.wi_worlds.proofs.world.World.copy.Goals as goal

pub returns : goal.returns
returns c = search rules
