use Rattle.wi_graph.proofs.Words.{length}
use Rattle.wi_graph.proofs.RoomSteps.{IsTaking}
use Rattle.wi_graph.proofs.rooms.commit_rooms.Given as goal

abbrev pub invariant-cells : goal.invariant-cells
invariant-cells l = IsTaking l.fn.next.items l.fn.rooms l.next.items l.rooms l.readers

abbrev pub decreases-cells : goal.decreases-cells
decreases-cells l = length l.next.items
