use Rattle.wi_engine.proofs.Words.{◌∙◌, sym, lacks_cell, first_passing, passes_here, passes_beyond, none_left}
use Rattle.wi_engine.proofs.lacking.next_lacking_in.Goals as goal

pub loop-ahead-init : goal.loop-ahead-init
loop-ahead-init c =
    let f = c.args.frame.now in
    let s = c.args.store.now.sheet in
    first_passing (lacks_cell s f.key.world f.found) s c.args.area c.args.after c.next_within-ahead.result c.next_within-ahead.ensures.some c.next_within-ahead.ensures.none

pub returns-then-is_lacking-clause-some : goal.returns-then-is_lacking-clause-some
returns-then-is_lacking-clause-some c =
    let f = c.args.frame.now in
    let s = c.args.store.now.sheet in
    passes_here (lacks_cell s f.key.world f.found) s c.args.area c.args.after c.in-Some.cell c.loop-ahead.ahead c.in-Some.is c.loop-ahead.invariant (sym c.is_lacking.ensures ∙ c.if-is_lacking.true)

pub loop-ahead-preserved : goal.loop-ahead-preserved
loop-ahead-preserved c =
    let f = c.args.frame.now in
    let s = c.args.store.now.sheet in
    passes_beyond (lacks_cell s f.key.world f.found) s c.args.area c.args.after c.in-Some.cell c.loop-ahead.ahead c.next_within-ahead-in-Some.result c.in-Some.is c.loop-ahead.invariant (sym c.is_lacking.ensures ∙ c.if-is_lacking.false)
    c.next_within-ahead-in-Some.ensures.some c.next_within-ahead-in-Some.ensures.none

pub returns-clause-none : goal.returns-clause-none
returns-clause-none c =
    let f = c.args.frame.now in
    let s = c.args.store.now.sheet in
    none_left (lacks_cell s f.key.world f.found) s c.args.area c.args.after c.loop-ahead.ahead c.in_default.is c.loop-ahead.invariant
