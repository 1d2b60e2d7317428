use Rattle.wi_sessions.proofs.Words.{dedup_is, IsStrictlyIncreasing-dedup}
use Rattle.wi_sessions.proofs.CellLemmas.{sorted_once}
use Rattle.wi_sessions.proofs.cells.sort.Goals as goal

pub returns-clause-order : goal.returns-clause-order
returns-clause-order c = rw (dedup_is _ _ _ c.dedup.ensures.filtered) (IsStrictlyIncreasing-dedup _ c.sort_unstable.ensures.sorted)

pub returns-clause-same : goal.returns-clause-same
returns-clause-same c = sorted_once _ _ _ c.sort_unstable.ensures.permutation (dedup_is _ _ _ c.dedup.ensures.filtered)
