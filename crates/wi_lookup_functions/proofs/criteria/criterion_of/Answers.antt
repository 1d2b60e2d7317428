use Rattle.wi_lookup_functions.proofs.Words.{err_from_is_err_and}
use Rattle.wi_lookup_functions.proofs.Referring.{criterion_fails, criterion_wants, criterion_is}
use Rattle.wi_lookup_functions.proofs.criteria.criterion_of.Goals as goal

pub returns-in_err-no_error : goal.returns-in_err-no_error
returns-in_err-no_error c =
    let p = err_from_is_err_and c.from_residual.result c.from_residual.ensures.1 in
    rw p.1 (criterion_fails c.args.value.now c.in_err-no_error.field-0.0 p.0 p.2 c.in_err-no_error.ensures)

pub returns-in_err-criterion : goal.returns-in_err-criterion
returns-in_err-criterion c =
    let p = err_from_is_err_and c.from_residual-in_err-criterion.result c.from_residual-in_err-criterion.ensures.1 in
    rw p.1 (criterion_wants c.args.value.now p.0 p.2)

pub returns : goal.returns
returns c = criterion_is c.args.value.now c.in_ok-criterion.criterion c.in_ok-no_error.ensures c.in_ok-criterion.ensures
