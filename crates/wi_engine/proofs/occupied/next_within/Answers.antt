use Rattle.wi_engine.proofs.Words.{next_if_some, next_if_none, none_after}
use Rattle.wi_engine.proofs.occupied.next_within.Goals as goal

pub returns-in_err-from-clause-none : goal.returns-in_err-from-clause-none
returns-in_err-from-clause-none c = none_after c.args.store.now.sheet c.args.area c.args.after c.from_residual.result c.in_err-from.ensures.none

pub returns-clause-some : goal.returns-clause-some
returns-clause-some c =
    next_if_some c.args.store.now.sheet c.args.area c.args.after c.in_ok-from.from c.in_ok-from.ensures.some c.next_occupied.result c.cells_stand_in_order.ensures c.next_occupied.ensures

pub returns-clause-none : goal.returns-clause-none
returns-clause-none c =
    next_if_none c.args.store.now.sheet c.args.area c.args.after c.in_ok-from.from c.in_ok-from.ensures.some c.next_occupied.result c.next_occupied.ensures
