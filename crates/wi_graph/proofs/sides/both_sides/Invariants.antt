use Rattle.wi_graph.proofs.Words.{◌+◌, ℕ, Bool, [], length, items_of, areas_of, room_at, missing, IsBelow, IsSearchingBelow}
use Rattle.wi_graph.proofs.SearchSteps.{all_readers}
use Rattle.wi_graph.proofs.BeyondSteps.{IsSearching}
use Rattle.wi_graph.proofs.sides.both_sides.Given as goal

abbrev pub invariant-cells : goal.invariant-cells
invariant-cells l =
    IsSearching l.readers l.cells l.found l.work.items
    × ((known : ℕ → Bool) → IsSearchingBelow l.rooms l.entry.0 (areas_of (room_at l.rooms l.entry.0)) known [] → IsBelow l.rooms l.entry.0 (areas_of (items_of l.entry.1)) known l.below)

abbrev pub decreases-cells : goal.decreases-cells
decreases-cells l = length (missing l.found (all_readers l.readers)) + length l.work.items
