use Rattle.wi_engine.proofs.Words.{refl, ap, sym, subst, arith, Sheet, has_formula, put_formula, MayBeRead}
use Rattle.wi_engine.proofs.engine.Waits.{asks_at, read_at, awaits_alone}
use Rattle.wi_engine.proofs.engine.NextValues.{may_read_here, next_here}
use Rattle.wi_engine.proofs.engine.Steps.{steps_none, steps_err, steps_less, steps_wait, steps_cell}
use Rattle.wi_engine.proofs.ahead.look_ahead.Goals as goal

pub remembered_value-requires-clause-read : goal.remembered_value-requires-clause-read
remembered_value-requires-clause-read g c =
    let s = c.args.store.now.sheet in
    let m = g.M.Memo.state c.args.memo.now in
    let f = c.args.frame.now in
    let read = read_at s f.key f.formula.now c.in-Some.at c.requires.frame.formula c.in-Some.ensures in
    subst (λ (x : Sheet). MayBeRead x m c.in-Some.at) (sym c.requires.memo.sheet) (may_read_here s m m f.key c.in-Some.at c.requires.memo refl c.requires.frame.key read)

-- ---- where nothing is found ahead

pub returns-then-not-is_new-clause-steps : goal.returns-then-not-is_new-clause-steps
returns-then-not-is_new-clause-steps g c = steps_none c.requires.frame refl

pub returns-in_default-clause-steps : goal.returns-in_default-clause-steps
returns-in_default-clause-steps g c = steps_none c.requires.frame refl

pub returns-in_default-formula_in-clause-steps : goal.returns-in_default-formula_in-clause-steps
returns-in_default-formula_in-clause-steps g c = steps_none c.requires.frame refl

-- ---- a value that is remembered

pub returns-in_ok-add_cell-in-Ready-clause-steps : goal.returns-in_ok-add_cell-in-Ready-clause-steps
returns-in_ok-add_cell-in-Ready-clause-steps g c =
    let s = c.args.store.now.sheet in
    let f = c.args.frame.now in
    let memo = c.requires.memo in
    let formula = put_formula s f.key.world c.in-Some.at (ap has_formula c.in-Some-formula_in.ensures.found) in
    let none = c.is_new.ensures.found c.if-not-is_new.false c.in-Some.at in
    let waiting = c.is_new.ensures.waiting c.if-not-is_new.false in
    let read = read_at s f.key f.formula.now c.in-Some.at c.requires.frame.formula c.in-Some.ensures in
    let shown = rw (c.in-Ready.is, memo.sheet) at c.in_ok-value.ensures.asked in
    steps_less (omega arith) (steps_cell (steps_none c.requires.frame refl) c.in_ok-value.ensures.same waiting memo refl refl waiting c.in_ok-add_cell-in-Ready.ensures none read formula shown)

-- ---- one that has to be found first

pub returns-in-First-clause-steps : goal.returns-in-First-clause-steps
returns-in-First-clause-steps g c =
    let s = c.args.store.now.sheet in
    let f = c.args.frame.now in
    let asks = asks_at s f.key f.formula.now c.in-Some.at c.requires.frame.formula c.in-Some.ensures in
    let none = c.is_new.ensures.found c.if-not-is_new.false c.in-Some.at in
    let waiting = awaits_alone s f.key f.found c.in-Some.at c.new.result c.new.ensures.items asks (ap has_formula c.in-Some-formula_in.ensures.found, none) in
    steps_less (omega arith) (steps_wait (steps_none c.requires.frame refl) c.in_ok-value.ensures.same (c.is_new.ensures.waiting c.if-not-is_new.false) (record { key = refl; formula = refl; found = refl; awaits = λ d. waiting }) refl)

pub returns-in-First-clause-next : goal.returns-in-First-clause-next
returns-in-First-clause-next g c =
    let f = c.args.frame.now in
    let there = rw (c.in-First.is, c.requires.memo.sheet) at c.in_ok-value.ensures.asked in
    let next = next_here f.key f.key refl refl there (read_at c.args.store.now.sheet f.key f.formula.now c.in-Some.at c.requires.frame.formula c.in-Some.ensures) in
    record { next = next; awaited = (there.unvalued.cell, there.unvalued.world) }

pub returns-in_err-value-clause-steps : goal.returns-in_err-value-clause-steps
returns-in_err-value-clause-steps g c = steps_err c.from_residual.result c.from_residual.ensures.0 c.remembered_value.ensures.same refl

pub returns-in_err-add_cell-in-Ready-clause-steps : goal.returns-in_err-add_cell-in-Ready-clause-steps
returns-in_err-add_cell-in-Ready-clause-steps g c = steps_err c.from_residual-in_err-add_cell-in-Ready.result c.from_residual-in_err-add_cell-in-Ready.ensures.0 c.in_ok-value.ensures.same refl
