use Rattle.wi_graph.proofs.RoomSteps.{less_more}
use Rattle.wi_graph.proofs.rooms.remove_pairs.Goals as goal

pub loop-area-preserved : goal.loop-area-preserved
loop-area-preserved c =
    less_more c.args.cell c.args.areas.now c.loop-area.area-index c.area-item.result c.args.readers.now c.loop-area.readers c.remove.new.self c.loop-area-test.true c.area-item.is c.remove.ensures c.loop-area.invariant
