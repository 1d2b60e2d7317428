use Rattle.wi_worlds.proofs.Words.{arith, common_steps}
use Rattle.wi_worlds.proofs.entries.insert_copies.Goals as goal

pub loop-replacement-preserved : goal.loop-replacement-preserved
loop-replacement-preserved c = grind (arith, common_steps)
