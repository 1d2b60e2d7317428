use Rattle.wi_propagate.proofs.FlushingSteps.{visited_more}
use Rattle.wi_propagate.proofs.flushing.visit.Goals as goal

pub loop-cell-preserved : goal.loop-cell-preserved
loop-cell-preserved c =
    visited_more c.args.visited.now c.loop-cell.visited c.put_new.new.self c.args.cells.now c.loop-cell.cell-index c.cell-item.result _ c.loop-cell-test.true c.cell-item.is c.in_ok-put_new.ensures.entries c.loop-cell.invariant
