use Rattle.wi_lookup_functions.proofs.Words.{◌≤◌, length, arith, err_from_is_err_and}
use Rattle.wi_lookup_functions.proofs.AllPlaces.{starts, goes_on, fails, misses, ends}
use Rattle.wi_lookup_functions.proofs.products.product_at.Goals as goal

pub loop-area-init : goal.loop-area-init
loop-area-init g c = starts (g.L.Lookup.known_cell c.args.lookup.now) c.args.first c.args.areas.now c.args.at c.one-product.result c.one-product.ensures

pub loop-area-preserved : goal.loop-area-preserved
loop-area-preserved g c =
    let l = c.loop-area in
    goes_on (g.L.Lookup.known_cell c.args.lookup.now) c.args.first c.args.areas.now c.args.at l.product c.in_ok-more.more l.area-index c.area-item.result c.same_place.result c.in_ok-value.value.now c.loop-area-test.true c.area-item.is c.in_ok-value.ensures.known c.same_place.ensures c.in_ok-more.ensures l.invariant

pub returns-in_err-value : goal.returns-in_err-value
returns-in_err-value g c =
    let p = err_from_is_err_and c.from_residual.result c.from_residual.ensures.1 in
    rw p.1 (misses (g.L.Lookup.known_cell c.args.lookup.now) c.args.first c.args.areas.now c.args.at c.loop-area.area-index c.area-item.result c.same_place.result c.in_err-value.field-0.0 p.0 p.2 c.requires.within c.requires.size c.loop-area-test.true c.area-item.is c.same_place.ensures c.in_err-value.ensures.itself c.in_err-value.ensures.missing)

pub returns-in_err-more : goal.returns-in_err-more
returns-in_err-more g c =
    let p = err_from_is_err_and c.from_residual-in_err-more.result c.from_residual-in_err-more.ensures.1 in
    let l = c.loop-area in
    rw p.1 (fails (g.L.Lookup.known_cell c.args.lookup.now) c.args.first c.args.areas.now c.args.at l.product l.area-index c.area-item.result c.same_place.result c.in_ok-value.value.now c.in_err-more.field-0.0 p.0 p.2 c.loop-area-test.true c.area-item.is c.in_ok-value.ensures.known c.same_place.ensures c.in_err-more.ensures l.invariant)

pub returns : goal.returns
returns g c =
    let l = c.loop-area in
    let over : length c.args.areas.now ≤ l.area-index = omega arith in
    ends (g.L.Lookup.known_cell c.args.lookup.now) c.args.first c.args.areas.now c.args.at l.product l.area-index over l.invariant
