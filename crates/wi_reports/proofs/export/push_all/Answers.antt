use Rattle.wi_reports.proofs.Words.{arith, common_steps, starts_itself, starts_after, starts_same, starts_pushed}
use Rattle.wi_reports.proofs.export.push_all.Goals as goal

pub returns-clause-ok : goal.returns-clause-ok
returns-clause-ok c = grind (arith, common_steps)

pub returns-clause-kept : goal.returns-clause-kept
returns-clause-kept c =
    starts_pushed c.extend_from_slice-3.result _ _ _ _ c.extend_from_slice-3.ensures.items (starts_after _ _ _ _ c.in_ok-push.ensures.items
    (starts_after _ _ _ _ c.in_ok-extend_from_slice-2.ensures.items (starts_after _ _ _ _ c.in_ok-extend_from_slice.ensures.items (starts_itself _))))

pub returns-in_err-extend_from_slice-clause-kept : goal.returns-in_err-extend_from_slice-clause-kept
returns-in_err-extend_from_slice-clause-kept c = starts_same _ _ _ c.in_err-extend_from_slice.ensures.items (starts_itself _)

pub returns-in_err-extend_from_slice-2-clause-kept : goal.returns-in_err-extend_from_slice-2-clause-kept
returns-in_err-extend_from_slice-2-clause-kept c =
    starts_same _ _ _ c.in_err-extend_from_slice-2.ensures.items (starts_after _ _ _ _ c.in_ok-extend_from_slice.ensures.items (starts_itself _))

pub returns-in_err-push-clause-kept : goal.returns-in_err-push-clause-kept
returns-in_err-push-clause-kept c =
    starts_same _ _ _ c.in_err-push.ensures.items (starts_after _ _ _ _ c.in_ok-extend_from_slice-2.ensures.items
    (starts_after _ _ _ _ c.in_ok-extend_from_slice.ensures.items (starts_itself _)))
