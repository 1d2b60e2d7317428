use Rattle.wi_reports.proofs.Words.{starts_itself, starts_joined}
use Rattle.wi_reports.proofs.changes.push_change.Goals as goal

pub returns-clause-kept : goal.returns-clause-kept
returns-clause-kept c = starts_joined c.push_record.result _ _ _ c.push_record.ensures.ok c.push_record.ensures.err

pub returns-in_err-address-clause-kept : goal.returns-in_err-address-clause-kept
returns-in_err-address-clause-kept c = starts_itself _

pub returns-in_err-text-clause-kept : goal.returns-in_err-text-clause-kept
returns-in_err-text-clause-kept c = starts_itself _
