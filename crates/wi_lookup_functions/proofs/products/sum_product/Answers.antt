use Rattle.wi_lookup_functions.proofs.Words.{ap, sym, ◌∙◌, err_from_is_err_and}
use Rattle.std.specs.Prelude.{Ok}
use Rattle.wi_lookup_functions.proofs.ProductEnds.{ends_at_areas, ends_summed, ends_in_sum}
use Rattle.wi_lookup_functions.proofs.products.sum_product.Goals as goal

pub returns-in_err-areas : goal.returns-in_err-areas
returns-in_err-areas g c =
    let p = err_from_is_err_and c.from_residual.result c.from_residual.ensures.1 in
    rw p.1 (ends_at_areas c.args.arguments.now (g.L.Lookup.known_cell c.args.lookup.now) c.in_err-areas.field-0.0 p.0 p.2 c.in_err-areas.ensures.error)

pub returns-in_err-sum : goal.returns-in_err-sum
returns-in_err-sum g c =
    let p = err_from_is_err_and c.from_residual-in_err-sum.result c.from_residual-in_err-sum.ensures.1 in
    rw p.1 (ends_in_sum c.args.arguments.now (g.L.Lookup.known_cell c.args.lookup.now) c.deref.result.now c.in_err-sum.field-0.0 p.0 p.2 (c.in_ok-areas.ensures.done ∙ ap Ok (sym c.deref.ensures.value)) c.in_err-sum.ensures)

pub returns : goal.returns
returns g c = ends_summed c.args.arguments.now (g.L.Lookup.known_cell c.args.lookup.now) c.deref.result.now c.in_ok-sum.sum (c.in_ok-areas.ensures.done ∙ ap Ok (sym c.deref.ensures.value)) c.in_ok-sum.ensures
