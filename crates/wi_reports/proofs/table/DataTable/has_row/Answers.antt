use Rattle.wi_reports.proofs.Words.{rules}
use Rattle.wi_reports.proofs.table.DataTable.has_row.Goals as goal

pub returns-in-None : goal.returns-in-None
returns-in-None c = search rules
