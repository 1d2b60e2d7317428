use Rattle.wi_reports.proofs.Words.{rules}
use Rattle.wi_reports.proofs.rows.push_rows.Goals as goal

pub returns-then-is_err-clause-err : goal.returns-then-is_err-clause-err
returns-then-is_err-clause-err g c = search rules
