use Rattle.wi_lookup_functions.proofs.Words.{err_from_is_err_and}
use Rattle.wi_lookup_functions.proofs.AllPlaces.{begins, goes_on_place, product_fails, sum_fails, sum_ends, fewer_left}
use Rattle.wi_lookup_functions.proofs.products.sum_of_products.Goals as goal

pub loop-ahead-init : goal.loop-ahead-init
loop-ahead-init g c = begins (g.L.Lookup.known_cell c.args.lookup.now) c.args.first c.args.areas.now c.zero-sum.result c.next_place-ahead.result c.zero-sum.ensures c.next_place-ahead.ensures

pub loop-ahead-preserved : goal.loop-ahead-preserved
loop-ahead-preserved g c =
    let l = c.loop-ahead in
    goes_on_place (g.L.Lookup.known_cell c.args.lookup.now) c.args.first c.args.areas.now c.requires.head l.sum c.in_ok-more.more c.in_ok-product.product l.ahead c.in-Some.at c.next_place-ahead-in-Some.result l.invariant c.in-Some.is c.in_ok-product.ensures c.in_ok-more.ensures c.next_place-ahead-in-Some.ensures

pub loop-ahead-smaller : goal.loop-ahead-smaller
loop-ahead-smaller g c =
    let l = c.loop-ahead in
    fewer_left (g.L.Lookup.known_cell c.args.lookup.now) c.args.first c.args.areas.now l.sum l.ahead c.in-Some.at c.next_place-ahead-in-Some.result l.invariant c.in-Some.is c.next_place-ahead-in-Some.ensures

pub returns-in_err-product : goal.returns-in_err-product
returns-in_err-product g c =
    let p = err_from_is_err_and c.from_residual.result c.from_residual.ensures.1 in
    let l = c.loop-ahead in
    rw p.1 (product_fails (g.L.Lookup.known_cell c.args.lookup.now) c.args.first c.args.areas.now c.requires.head l.sum l.ahead c.in-Some.at c.in_err-product.field-0.0 p.0 p.2 l.invariant c.in-Some.is c.in_err-product.ensures)

pub returns-in_err-more : goal.returns-in_err-more
returns-in_err-more g c =
    let p = err_from_is_err_and c.from_residual-in_err-more.result c.from_residual-in_err-more.ensures.1 in
    let l = c.loop-ahead in
    rw p.1 (sum_fails (g.L.Lookup.known_cell c.args.lookup.now) c.args.first c.args.areas.now c.requires.head l.sum c.in_ok-product.product l.ahead c.in-Some.at c.in_err-more.field-0.0 p.0 p.2 l.invariant c.in-Some.is c.in_ok-product.ensures c.in_err-more.ensures)

pub returns : goal.returns
returns g c =
    let l = c.loop-ahead in
    sum_ends (g.L.Lookup.known_cell c.args.lookup.now) c.args.first c.args.areas.now c.requires.head l.sum l.ahead l.invariant c.in_default.is
