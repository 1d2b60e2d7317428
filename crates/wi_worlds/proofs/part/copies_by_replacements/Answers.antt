use Rattle.wi_worlds.proofs.Words.{arith, common_steps}
use Rattle.wi_worlds.proofs.part.copies_by_replacements.Goals as goal

pub loop-replacement-preserved : goal.loop-replacement-preserved
loop-replacement-preserved c = grind (arith, common_steps)
