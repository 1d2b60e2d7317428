use Rattle.wi_graph.proofs.BoundsSteps.{around_more}
use Rattle.wi_graph.proofs.bounds.around.Goals as goal

pub loop-cell-preserved : goal.loop-cell-preserved
loop-cell-preserved c =
    around_more c.args.cells.now c.loop-cell.cell-index c.cell-item.result c.loop-cell.bounds c.with_cell-bounds.result c.loop-cell-test.true c.cell-item.is c.with_cell-bounds.ensures.cell c.with_cell-bounds.ensures.others c.loop-cell.invariant
