use Rattle.wi_reports.proofs.Words.{sym, ◌∙◌, sum_of, negated}
use Rattle.wi_reports.proofs.Differences.{that_fits, too_large}
use Rattle.wi_reports.proofs.compare.difference.Goals as goal

pub returns-in-Ok : goal.returns-in-Ok
returns-in-Ok c = that_fits (sum_of c.args.second (negated c.args.first)) c.in-Ok.number (sym c.checked_sub.ensures.value ∙ c.in-Ok.is)

pub returns-in-Err : goal.returns-in-Err
returns-in-Err c = too_large (sum_of c.args.second (negated c.args.first)) _ (sym c.checked_sub.ensures.value ∙ c.in-Err.is)
