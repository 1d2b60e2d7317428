use Rattle.wi_import.proofs.Words.{arith, common_steps}
use Rattle.wi_import.proofs.checking.leaves_sheet.Goals as goal

pub returns-then-is_outside : goal.returns-then-is_outside
returns-then-is_outside c = grind (arith, common_steps)

pub loop-i-preserved : goal.loop-i-preserved
loop-i-preserved c = grind (arith, common_steps)

pub returns : goal.returns
returns c = grind (arith, common_steps)
