use Rattle.wi_lookup_functions.proofs.Words.{err_from_is_err_and, is_referred, region_is, count_if_value}
use Rattle.std.specs.Prelude.{Ok, Err}
use Rattle.wi_lookup_functions.proofs.Counts.{ends_at_area, ends_at_criterion, ends_counted}
use Rattle.wi_lookup_functions.proofs.AsValue.{stopped_inside}
use Rattle.wi_lookup_functions.proofs.counting.count_if.Goals as goal

pub returns-in_err-area : goal.returns-in_err-area
returns-in_err-area g c =
    let p = err_from_is_err_and c.from_residual.result c.from_residual.ensures.1 in
    rw p.1 (ends_at_area (g.L.Lookup.known_cell c.args.lookup.now) c.args.arguments.now c.in_err-area.field-0.0 p.0 p.2 (region_is c.args.arguments.now 0 (Err c.in_err-area.field-0.0) c.in_err-area.ensures))

pub returns-in_err-criterion : goal.returns-in_err-criterion
returns-in_err-criterion g c =
    let p = err_from_is_err_and c.from_residual-in_err-criterion.result c.from_residual-in_err-criterion.ensures.1 in
    rw p.1 (ends_at_criterion (g.L.Lookup.known_cell c.args.lookup.now) c.args.arguments.now c.in_ok-area.area c.in_err-criterion.field-0.0 p.0 p.2 (region_is c.args.arguments.now 0 (Ok c.in_ok-area.area) c.in_ok-area.ensures) c.in_err-criterion.ensures)

pub returns-in_err-count : goal.returns-in_err-count
returns-in_err-count g c =
    let p = err_from_is_err_and c.from_residual-in_err-count.result c.from_residual-in_err-count.ensures.1 in
    rw p.1 (stopped_inside (g.L.Lookup.known_cell c.args.lookup.now) count_if_value c.args.arguments.now c.in_ok-area.area c.in_err-count.field-0.0 p.0 p.2 (is_referred c.args.arguments.now 0 c.in_ok-area.area c.in_ok-area.ensures) c.in_err-count.ensures.missing c.in_err-count.ensures.inside)

pub returns : goal.returns
returns g c =
    ends_counted (g.L.Lookup.known_cell c.args.lookup.now) c.args.arguments.now c.in_ok-area.area c.in_ok-criterion.criterion c.in_ok-count.count c.whole_value.result c.whole_value.ensures (region_is c.args.arguments.now 0 (Ok c.in_ok-area.area) c.in_ok-area.ensures) c.in_ok-criterion.ensures c.in_ok-count.ensures.count
