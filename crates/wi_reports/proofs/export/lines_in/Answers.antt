use Rattle.wi_reports.proofs.Words.{arith, common_steps}
use Rattle.wi_reports.proofs.export.lines_in.Goals as goal

pub returns : goal.returns
returns c = grind (arith, common_steps)
