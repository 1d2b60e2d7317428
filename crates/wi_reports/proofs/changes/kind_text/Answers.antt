use Rattle.wi_reports.proofs.Words.{rules}
use Rattle.wi_reports.proofs.changes.kind_text.Goals as goal

pub returns-in-Text : goal.returns-in-Text
returns-in-Text c = search rules
