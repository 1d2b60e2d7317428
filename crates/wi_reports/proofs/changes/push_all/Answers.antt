use Rattle.wi_reports.proofs.Words.{arith, common_steps, starts_with_trans, on_err}
use Rattle.wi_reports.proofs.ChangeLemmas.{not_none}
use Rattle.wi_reports.proofs.changes.push_all.Goals as goal

pub loop-change-preserved : goal.loop-change-preserved
loop-change-preserved c = grind (arith, common_steps)

pub returns-clause-ok : goal.returns-clause-ok
returns-clause-ok c = grind (arith, common_steps)

pub returns-in_err-push_change-clause-kept : goal.returns-in_err-push_change-clause-kept
returns-in_err-push_change-clause-kept c = starts_with_trans _ _ _ c.in_err-push_change.ensures.kept c.loop-change.invariant.kept

pub returns-in_err-push_change-clause-some : goal.returns-in_err-push_change-clause-some
returns-in_err-push_change-clause-some c = on_err c.from_residual.result (not_none c.args.changes.now c.loop-change.change-index c.loop-change-test.true)
