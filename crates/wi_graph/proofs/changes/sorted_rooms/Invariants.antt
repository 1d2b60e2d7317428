use Rattle.wi_graph.proofs.Words.{take, Brings, HasNoIdle}
use Rattle.wi_graph.proofs.changes.sorted_rooms.Given as goal

abbrev pub invariant-loop-change : goal.invariant-loop-change
invariant-loop-change l = Brings l.rooms l.next.entries (take l.change-index l.changes) × HasNoIdle l.rooms l.next.entries
