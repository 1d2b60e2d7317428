use Rattle.wi_lookup_functions.proofs.Words.{take, IsNextPlace}
use Rattle.wi_lookup_functions.proofs.places.next_place.Given as goal

abbrev pub invariant-loop-area : goal.invariant-loop-area
invariant-loop-area g l = IsNextPlace (g.L.Lookup.known_cell l.lookup) l.first (take l.area-index l.areas) l.passed l.found
