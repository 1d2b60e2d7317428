use Rattle.wi_edit_log.proofs.Words.{arith, common_steps}
use Rattle.wi_edit_log.proofs.edit_log.EditLog.len.Goals as goal

pub returns : goal.returns
returns c = grind (arith, common_steps)
