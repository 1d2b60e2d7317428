use Rattle.wi_lookup_functions.proofs.Words.{◌≤◌, None, length, refl, arith}
use Rattle.wi_lookup_functions.proofs.InOrder.{none_yet, one_more, all_taken}
use Rattle.wi_lookup_functions.proofs.places.next_place.Goals as goal

pub loop-area-init : goal.loop-area-init
loop-area-init g c = none_yet (g.L.Lookup.known_cell c.args.lookup.now) c.args.first c.args.areas.now c.args.passed.now None refl

pub loop-area-preserved : goal.loop-area-preserved
loop-area-preserved g c =
    let l = c.loop-area in
    one_more (g.L.Lookup.known_cell c.args.lookup.now) c.args.first c.args.areas.now c.args.passed.now l.area-index c.area-item.result l.found c.next_in.result c.sooner-found.result c.loop-area-test.true c.area-item.is c.sooner-found.ensures l.invariant c.next_in.ensures

pub returns : goal.returns
returns g c =
    let l = c.loop-area in
    let over : length c.args.areas.now ≤ l.area-index = omega arith in
    all_taken (g.L.Lookup.known_cell c.args.lookup.now) c.args.first c.args.areas.now c.args.passed.now l.area-index l.found over l.invariant
