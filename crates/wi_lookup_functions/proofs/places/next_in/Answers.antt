use Rattle.wi_lookup_functions.proofs.InOrder.{after_passed, first_found}
use Rattle.wi_lookup_functions.proofs.places.next_in.Goals as goal

pub returns-in-Some : goal.returns-in-Some
returns-in-Some g c =
    after_passed (g.L.Lookup.known_cell c.args.lookup.now) c.args.first c.args.area c.requires.size c.in-Some.at c.same_place.result c.next_after-next.result c.moved.result c.args.passed.now c.in-Some.is c.requires.within c.same_place.ensures c.moved.ensures c.next_after-next.ensures

pub returns-in-None : goal.returns-in-None
returns-in-None g c =
    first_found (g.L.Lookup.known_cell c.args.lookup.now) c.args.first c.args.area c.requires.size c.first.result c.next_filled-next.result c.moved-in-None.result c.args.passed.now c.in-None.is c.first.ensures c.moved-in-None.ensures c.next_filled-next.ensures
