use Rattle.wi_graph.proofs.Words.{length}
use Rattle.wi_graph.proofs.RoomSteps.{IsTakingBack}
use Rattle.wi_graph.proofs.rooms.cancel_rooms.Given as goal

abbrev pub invariant-cells : goal.invariant-cells
invariant-cells l = IsTakingBack l.fn.rooms l.next.items l.rooms l.readers

abbrev pub decreases-cells : goal.decreases-cells
decreases-cells l = length l.next.items
