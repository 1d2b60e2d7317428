use Rattle.wi_graph.proofs.SearchSteps.{enqueued_more}
use Rattle.wi_graph.proofs.Words.{arith, common_steps}
use Rattle.wi_graph.proofs.cone.enqueue.Goals as goal

pub loop-cell-preserved : goal.loop-cell-preserved
loop-cell-preserved c =
    enqueued_more c.args.cells.now c.loop-cell.cell-index c.cell-item.result c.args.found.now c.loop-cell.found c.enqueue_one.new.found c.args.work.now.items c.loop-cell.work.items c.enqueue_one.new.work.items c.loop-cell-test.true c.cell-item.is c.loop-cell.invariant c.in_ok-enqueue_one.ensures

pub returns : goal.returns
returns c = grind (arith, common_steps)
