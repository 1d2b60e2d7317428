use Rattle.wi_lookup_functions.proofs.Words.{err_from_is_err_and, is_referred, region_is, sym, ◌∙◌}
use Rattle.std.specs.Prelude.{Ok, Err}
use Rattle.wi_lookup_functions.proofs.Sums.{ends_at_area, ends_at_criterion, ends_at_added, ends_at_size, ends_summed, ends_in_sum}
use Rattle.wi_lookup_functions.proofs.summing.sum_if.Goals as goal

pub returns-in_err-area : goal.returns-in_err-area
returns-in_err-area g c =
    let p = err_from_is_err_and c.from_residual.result c.from_residual.ensures.1 in
    rw p.1 (ends_at_area (g.L.Lookup.known_cell c.args.lookup.now) c.args.arguments.now c.in_err-area.field-0.0 p.0 p.2 (region_is c.args.arguments.now 0 (Err c.in_err-area.field-0.0) c.in_err-area.ensures))

pub returns-in_err-criterion : goal.returns-in_err-criterion
returns-in_err-criterion g c =
    let p = err_from_is_err_and c.from_residual-in_err-criterion.result c.from_residual-in_err-criterion.ensures.1 in
    rw p.1 (ends_at_criterion (g.L.Lookup.known_cell c.args.lookup.now) c.args.arguments.now c.in_ok-area.area c.in_err-criterion.field-0.0 p.0 p.2 (region_is c.args.arguments.now 0 (Ok c.in_ok-area.area) c.in_ok-area.ensures) c.in_err-criterion.ensures)

pub returns-in_err-added : goal.returns-in_err-added
returns-in_err-added g c =
    let p = err_from_is_err_and c.from_residual-in_err-added.result c.from_residual-in_err-added.ensures.1 in
    rw p.1 (ends_at_added (g.L.Lookup.known_cell c.args.lookup.now) c.args.arguments.now c.in_ok-area.area c.in_ok-criterion.criterion (region_is c.args.arguments.now 0 (Ok c.in_ok-area.area) c.in_ok-area.ensures) c.in_ok-criterion.ensures c.in_err-added.field-0.0 p.0 p.2 c.in_err-added.ensures.region)

pub returns-then-not-same_extent : goal.returns-then-not-same_extent
returns-then-not-same_extent g c =
    ends_at_size (g.L.Lookup.known_cell c.args.lookup.now) c.args.arguments.now c.in_ok-area.area c.in_ok-criterion.criterion (region_is c.args.arguments.now 0 (Ok c.in_ok-area.area) c.in_ok-area.ensures) c.in_ok-criterion.ensures c.in_ok-added.added c.in_ok-added.ensures.region (sym c.same_extent.ensures ∙ c.if-not-same_extent.true)

pub returns-in_err-sum : goal.returns-in_err-sum
returns-in_err-sum g c =
    let p = err_from_is_err_and c.from_residual-in_err-sum.result c.from_residual-in_err-sum.ensures.1 in
    rw p.1 (ends_in_sum (g.L.Lookup.known_cell c.args.lookup.now) c.args.arguments.now c.in_ok-area.area c.in_ok-criterion.criterion (region_is c.args.arguments.now 0 (Ok c.in_ok-area.area) c.in_ok-area.ensures) c.in_ok-criterion.ensures c.in_ok-added.added c.in_ok-added.ensures.region (sym c.same_extent.ensures ∙ c.if-not-same_extent.false) (is_referred c.args.arguments.now 0 c.in_ok-area.area c.in_ok-area.ensures) c.in_ok-added.ensures.referred c.in_err-sum.field-0.0 p.0 p.2 c.in_err-sum.ensures)

pub returns : goal.returns
returns g c =
    ends_summed (g.L.Lookup.known_cell c.args.lookup.now) c.args.arguments.now c.in_ok-area.area c.in_ok-criterion.criterion (region_is c.args.arguments.now 0 (Ok c.in_ok-area.area) c.in_ok-area.ensures) c.in_ok-criterion.ensures c.in_ok-added.added c.in_ok-added.ensures.region (sym c.same_extent.ensures ∙ c.if-not-same_extent.false) c.in_ok-sum.sum c.in_ok-sum.ensures

pub area_or-requires : goal.area_or-requires
area_or-requires g c = is_referred c.args.arguments.now 0 c.in_ok-area.area c.in_ok-area.ensures
