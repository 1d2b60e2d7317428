use Rattle.wi_lookup_functions.proofs.Words.{drop}
use Rattle.wi_lookup_functions.proofs.AllPlaces.{Left}
use Rattle.wi_lookup_functions.proofs.products.product_at.Given as goal

abbrev pub invariant-loop-area : goal.invariant-loop-area
invariant-loop-area g l = Left (g.L.Lookup.known_cell l.lookup) l.first l.areas l.at l.product (drop l.area-index l.areas)
