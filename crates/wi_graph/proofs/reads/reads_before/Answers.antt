use Rattle.wi_graph.proofs.Words.{room_at, areas_of}
use Rattle.wi_graph.proofs.TurningSteps.{reads_step}
use Rattle.wi_graph.proofs.reads.reads_before.Goals as goal

pub loop-cell-preserved : goal.loop-cell-preserved
loop-cell-preserved c =
    reads_step c.args.cells.now c.loop-cell.cell-index c.cell-item.result (λ d. areas_of (room_at c.args.rooms.now d)) c.loop-cell.reads c.insert.new.self c.in_ok-areas.areas c.loop-cell-test.true c.cell-item.is
    c.in_ok-areas.ensures c.in_ok-insert.ensures.updates.0 c.loop-cell.invariant
