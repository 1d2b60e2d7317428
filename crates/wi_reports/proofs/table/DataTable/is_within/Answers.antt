use Rattle.wi_reports.proofs.Words.{rules}
use Rattle.wi_reports.proofs.table.DataTable.is_within.Goals as goal

pub returns-in-Some : goal.returns-in-Some
returns-in-Some c = search rules

pub returns-in-None : goal.returns-in-None
returns-in-None c = search rules
