use Rattle.wi_engine.proofs.Words.{inl, refl, sym, subst, ◌∙◌, arith, MemoState, IsMemoOf, case_at}
use Rattle.wi_engine.proofs.engine.NextValues.{may_read_here, next_here, awaits_next, lacks_less, lacked_next}
use Rattle.wi_engine.proofs.engine.Steps.{steps_none, steps_err, steps_less, steps_wait, steps_cell}
use Rattle.wi_engine.proofs.engine.resolve_cells.Goals as goal

pub value_now-requires-clause-memo : goal.value_now-requires-clause-memo
value_now-requires-clause-memo g c = subst (λ (x : MemoState). IsMemoOf c.args.store.now.sheet x) (sym c.cells.invariant.steps.same) c.requires.memo

pub value_now-requires-clause-read : goal.value_now-requires-clause-read
value_now-requires-clause-read g c =
    let i = c.cells.invariant in
    may_read_here c.args.store.now.sheet (g.M.Memo.state c.args.memo.now) (g.M.Memo.state c.cells.memo) c.cells.frame.key c.cells.at c.requires.memo i.steps.same (i.steps.frame refl).key i.awaits.1

pub add_cell-requires : goal.add_cell-requires
add_cell-requires g c = c.cells.invariant.awaits.0.1

pub cells-init : goal.cells-init
cells-init g c = record { steps = steps_none c.requires.frame refl; nothing = c.requires.waiting; awaits = c.requires.awaits; lacked = λ d i l. inl i }

pub cells-smaller : goal.cells-smaller
cells-smaller g c =
    lacks_less c.args.store.now.sheet c.cells.frame.key c.cells.frame.found c.add_cell.new.self c.cells.at c.in-Ready.value c.cells.others c.in_ok-add_cell-in-Ready.ensures c.cells.invariant.awaits

pub cells-preserved : goal.cells-preserved
cells-preserved g c =
    let s = c.args.store.now.sheet in
    let i = c.cells.invariant in
    let shown = rw c.in-Ready.is at c.in_ok-value.ensures.asked in
    let more = c.in_ok-add_cell-in-Ready.ensures in
    record {
      steps = steps_less (omega arith) (steps_cell i.steps c.in_ok-value.ensures.same i.nothing c.requires.memo refl refl i.nothing more i.awaits.0.1 i.awaits.1 i.awaits.2 shown);
      nothing = i.nothing;
      awaits = awaits_next s (case_at c.cells.frame.key) c.add_cell.new.self c.in-Some.next c.next_lacking.new.cells c.in-Some.ensures.next c.in-Some.ensures.rest;
      lacked = lacked_next s c.cells.frame.key.world c.cells.frame.found c.add_cell.new.self c.cells.at c.in-Some.next c.in-Ready.value c.args.others.items c.cells.others.items c.next_lacking.new.cells.items more i.lacked c.in-Some.ensures.passed;
    }

pub returns-in-First-clause-next : goal.returns-in-First-clause-next
returns-in-First-clause-next g c =
    let i = c.cells.invariant in
    let there = rw c.in-First.is at c.in_ok-value.ensures.asked in
    record { next = next_here c.cells.frame.key c.cells.frame.key i.steps.same refl there i.awaits.1; awaited = (there.unvalued.cell, there.unvalued.world) }

pub returns-in-First-clause-steps : goal.returns-in-First-clause-steps
returns-in-First-clause-steps g c =
    let i = c.cells.invariant in
    steps_wait i.steps c.in_ok-value.ensures.same i.nothing (record { key = refl; formula = refl; found = refl; awaits = λ d. i.awaits }) refl

pub returns-in-None-clause-steps : goal.returns-in-None-clause-steps
returns-in-None-clause-steps g c =
    let i = c.cells.invariant in
    let shown = rw c.in-Ready.is at c.in_ok-value.ensures.asked in
    steps_cell i.steps c.in_ok-value.ensures.same i.nothing c.requires.memo refl refl i.nothing c.in_ok-add_cell-in-Ready.ensures i.awaits.0.1 i.awaits.1 i.awaits.2 shown

pub returns-in_err-value-clause-steps : goal.returns-in_err-value-clause-steps
returns-in_err-value-clause-steps g c =
    let i = c.cells.invariant.steps in
    steps_err c.from_residual.result c.from_residual.ensures.0 (c.value_now.ensures.same ∙ i.same) i.key

pub returns-in_err-add_cell-in-Ready-clause-steps : goal.returns-in_err-add_cell-in-Ready-clause-steps
returns-in_err-add_cell-in-Ready-clause-steps g c =
    let i = c.cells.invariant.steps in
    steps_err c.from_residual-in_err-add_cell-in-Ready.result c.from_residual-in_err-add_cell-in-Ready.ensures.0 (c.in_ok-value.ensures.same ∙ i.same) i.key
