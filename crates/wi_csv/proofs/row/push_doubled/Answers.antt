use Rattle.std.proofs.Common.{rules}
use Rattle.wi_csv.proofs.Growth.{starts_itself, starts_after, starts_either, starts_same}
use Rattle.wi_csv.proofs.row.push_doubled.Goals as goal

pub returns-then-byte-eq34-clause-ok : goal.returns-then-byte-eq34-clause-ok
returns-then-byte-eq34-clause-ok c = search rules

pub returns-in_err-push-clause-kept : goal.returns-in_err-push-clause-kept
returns-in_err-push-clause-kept c = starts_same _ _ _ c.in_err-push.ensures.items (starts_itself _)

pub returns-then-byte-eq34-clause-kept : goal.returns-then-byte-eq34-clause-kept
returns-then-byte-eq34-clause-kept c = starts_either _ _ _ _ _ c.extend_from_slice.ensures.items (starts_itself _)

pub returns-in_ok-push-clause-kept : goal.returns-in_ok-push-clause-kept
returns-in_ok-push-clause-kept c = starts_after _ _ _ _ c.in_ok-push.ensures.items (starts_itself _)
