use Rattle.wi_edit_log.proofs.Words.{rules}
use Rattle.wi_edit_log.proofs.edit_log.EditLog.new.Goals as goal

pub returns : goal.returns
returns c = search rules
