use Rattle.wi_graph.proofs.Words.{None, length, KeepsReads, IsTracking}
use Rattle.wi_graph.proofs.stripping.next_free.Given as goal

abbrev pub invariant-cells : goal.invariant-cells
invariant-cells l = KeepsReads l.rest l.fn.areas l.areas × IsTracking l.areas l.pinned l.rest l.work.items l.waiting None

abbrev pub decreases-cells : goal.decreases-cells
decreases-cells l = length l.work.items
