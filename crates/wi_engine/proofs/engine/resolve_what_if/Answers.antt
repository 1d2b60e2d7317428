use Rattle.wi_engine.proofs.Words.{refl, sym, subst, ◌∙◌, MemoState, IsMemoOf, FoundWhatIf}
use Rattle.wi_engine.proofs.engine.NextValues.{may_read_what_if, may_read_inputs, next_input, next_inner}
use Rattle.wi_engine.proofs.engine.Steps.{steps_none, steps_err, steps_wait, steps_what_if}
use Rattle.wi_engine.proofs.engine.resolve_what_if.Goals as goal

pub world_of_what_if-requires-clause-memo : goal.world_of_what_if-requires-clause-memo
world_of_what_if-requires-clause-memo g c = c.requires.memo

pub world_of_what_if-requires-clause-read : goal.world_of_what_if-requires-clause-read
world_of_what_if-requires-clause-read g c =
    may_read_inputs c.args.store.now.sheet (g.M.Memo.state c.args.memo.now) c.args.frame.now.key c.args.at c.args.pairs c.deref.result.now c.requires.memo c.requires.frame.key c.requires.awaits.1 c.deref.ensures.value

pub value_now-requires-clause-memo : goal.value_now-requires-clause-memo
value_now-requires-clause-memo g c = subst (λ (x : MemoState). IsMemoOf c.args.store.now.sheet x) (sym c.in_ok-first.ensures.same) c.requires.memo

pub value_now-requires-clause-read : goal.value_now-requires-clause-read
value_now-requires-clause-read g c =
    may_read_what_if c.args.store.now.sheet (g.M.Memo.state c.args.memo.now) (g.M.Memo.state c.world_of_what_if.new.memo) c.args.frame.now.key c.args.at c.args.pairs c.requires.memo c.in_ok-first.ensures.same c.requires.frame.key c.requires.awaits.1

pub returns-in-First-clause-next : goal.returns-in-First-clause-next
returns-in-First-clause-next g c =
    let next =
    next_input c.args.store.now.sheet (g.M.Memo.state c.args.memo.now) c.args.frame.now.key c.in-First.first c.args.at c.args.pairs c.deref.result.now c.requires.awaits.1 c.deref.ensures.value (rw c.in-First.is at c.in_ok-first.ensures.inputs) in
    record { next = next; awaited = tt }

pub returns-in-First-2-clause-next : goal.returns-in-First-2-clause-next
returns-in-First-2-clause-next g c =
    let world = rw c.in-Ready.is at c.in_ok-first.ensures.inputs in
    let next =
    next_inner c.args.store.now.sheet (g.M.Memo.state c.args.memo.now) (g.M.Memo.state c.world_of_what_if.new.memo) c.args.frame.now.key c.in-First-2.first c.args.at c.args.pairs c.deref.result.now _
    c.in_ok-first.ensures.same c.requires.awaits.1 c.deref.ensures.value world (rw c.in-First-2.is at c.in_ok-first-in-Ready.ensures.asked) in
    record { next = next; awaited = tt }

-- ---- what is left

pub returns-in-First-clause-steps : goal.returns-in-First-clause-steps
returns-in-First-clause-steps g c = steps_wait (steps_none c.requires.frame refl) c.in_ok-first.ensures.same c.requires.waiting (record { key = refl; formula = refl; found = refl; awaits = λ d. c.requires.awaits }) refl

pub returns-in-First-2-clause-steps : goal.returns-in-First-2-clause-steps
returns-in-First-2-clause-steps g c =
    steps_wait (steps_none c.requires.frame c.in_ok-first.ensures.same) c.in_ok-first-in-Ready.ensures.same c.requires.waiting (record { key = refl; formula = refl; found = refl; awaits = λ d. c.requires.awaits }) refl

pub returns-clause-steps : goal.returns-clause-steps
returns-clause-steps g c =
    let world = rw c.in-Ready.is at c.in_ok-first.ensures.inputs in
    let shown = rw c.in-Ready-2.is at c.in_ok-first-in-Ready.ensures.asked in
    let x : FoundWhatIf = record { at = c.args.at; pairs = c.args.pairs; value = c.in-Ready-2.value } in
    steps_what_if {x = x} c.requires.memo c.in_ok-first.ensures.same c.in_ok-first-in-Ready.ensures.same c.requires.frame c.requires.waiting refl refl c.requires.waiting c.in_ok-add_what_if-in-Ready-2.ensures c.requires.awaits.0 c.requires.awaits.1
    c.deref.ensures.value world c.in_ok-first.ensures.order shown

pub returns-in_err-first-clause-steps : goal.returns-in_err-first-clause-steps
returns-in_err-first-clause-steps g c = steps_err c.from_residual.result c.from_residual.ensures.0 c.world_of_what_if.ensures.same refl

pub returns-in_err-first-in-Ready-clause-steps : goal.returns-in_err-first-in-Ready-clause-steps
returns-in_err-first-in-Ready-clause-steps g c = steps_err c.from_residual-in_err-first-in-Ready.result c.from_residual-in_err-first-in-Ready.ensures.0 (c.value_now.ensures.same ∙ c.in_ok-first.ensures.same) refl

pub returns-in_err-add_what_if-in-Ready-2-clause-steps : goal.returns-in_err-add_what_if-in-Ready-2-clause-steps
returns-in_err-add_what_if-in-Ready-2-clause-steps g c =
    steps_err c.from_residual-in_err-add_what_if-in-Ready-2.result c.from_residual-in_err-add_what_if-in-Ready-2.ensures.0 (c.in_ok-first-in-Ready.ensures.same ∙ c.in_ok-first.ensures.same) refl
