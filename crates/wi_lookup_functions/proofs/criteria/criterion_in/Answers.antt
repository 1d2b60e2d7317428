use Rattle.wi_lookup_functions.proofs.Words.{err_from_is_err_and}
use Rattle.wi_lookup_functions.proofs.Referring.{of_lent, of_lent_error, of_stop}
use Rattle.wi_lookup_functions.proofs.criteria.criterion_in.Goals as goal

pub returns-in_err-lent : goal.returns-in_err-lent
returns-in_err-lent g c =
    let p = err_from_is_err_and c.from_residual.result c.from_residual.ensures.1 in
    rw p.1 (of_stop (g.L.Lookup.known_cell c.args.lookup.now) c.args.argument.now c.in_err-lent.field-0.0 p.0 p.2 c.in_err-lent.ensures.missing)

pub returns-in_err-value : goal.returns-in_err-value
returns-in_err-value g c =
    let p = err_from_is_err_and c.from_residual-in_err-value.result c.from_residual-in_err-value.ensures.1 in
    rw p.1 (of_lent_error (g.L.Lookup.known_cell c.args.lookup.now) c.args.argument.now c.in_ok-lent.lent c.in_err-value.field-0.0 p.0 c.in_err-value.was p.2 c.in_ok-lent.ensures.done)

pub returns : goal.returns
returns g c =
    of_lent (g.L.Lookup.known_cell c.args.lookup.now) c.args.argument.now c.in_ok-lent.lent c.in_ok-value.value c.criterion_of.result c.in_ok-value.was c.in_ok-lent.ensures.done c.criterion_of.ensures
