use Rattle.wi_worlds.proofs.Words.{rules}
use Rattle.wi_worlds.proofs.world.World.replacements.Goals as goal

pub returns-in-Some-clause-value : goal.returns-in-Some-clause-value
returns-in-Some-clause-value c = search rules
