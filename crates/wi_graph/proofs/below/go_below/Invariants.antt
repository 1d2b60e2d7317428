use Rattle.wi_graph.proofs.Words.{ℕ, Bool, List, [], Area, areas_of, room_at, IsBelow, IsFinding, IsSearchingBelow}
use Rattle.wi_graph.proofs.below.go_below.Given as goal

abbrev pub invariant-loop : goal.invariant-loop
invariant-loop l =
    ((areas : List Area) (known : ℕ → Bool) → IsBelow l.rooms l.cell areas known l.initial.below → IsBelow l.rooms l.cell areas known l.below)
    × ((known : ℕ → Bool) → IsSearchingBelow l.rooms l.cell (areas_of (room_at l.rooms l.cell)) known [] → IsFinding l.rooms l.cell known l.initial.below → IsFinding l.rooms l.cell known l.below)
