use Rattle.wi_engine.proofs.Words.{subst, sym, MemoState, IsMemoOf, IsUnvaluedKey}
use Rattle.wi_engine.proofs.engine.RunsWithSpace.{values_known, values_none, values_then}
use Rattle.wi_engine.proofs.question.Question.value.Goals as goal

-- ---- what is asked of the memory, and of the run

pub value_now-requires-clause-memo : goal.value_now-requires-clause-memo
value_now-requires-clause-memo g c = c.requires.memo

pub value_now-requires-clause-read : goal.value_now-requires-clause-read
value_now-requires-clause-read g c = c.requires.read

pub run-requires-clause-memo : goal.run-requires-clause-memo
run-requires-clause-memo g c = subst (λ (x : MemoState). IsMemoOf c.args.store.now.sheet x) (sym c.in_ok-value.ensures.same) c.requires.memo

pub run-requires-clause-key : goal.run-requires-clause-key
run-requires-clause-key g c =
    let u = (rw c.in-First.is at c.in_ok-value.ensures.asked).unvalued in
    subst (λ (x : MemoState). IsUnvaluedKey c.args.store.now.sheet x c.in-First.cell.key) (sym c.in_ok-value.ensures.same) u.to_find

pub run-requires-clause-formula : goal.run-requires-clause-formula
run-requires-clause-formula g c = (rw c.in-First.is at c.in_ok-value.ensures.asked).stands

-- ---- a value that is there, a formula that has to be valued, and where memory runs out

pub returns-in-Ready : goal.returns-in-Ready
returns-in-Ready g c =
    let shown = rw c.in-Ready.is at c.in_ok-value.ensures.asked in
    values_known c.requires.memo c.in_ok-value.ensures.same shown

pub returns-in-First : goal.returns-in-First
returns-in-First g c =
    let u = (rw c.in-First.is at c.in_ok-value.ensures.asked).unvalued in
    let r = c.run.ensures in
    values_then u c.run.result c.requires.memo c.in_ok-value.ensures.same r.value r.spends r.kept r.settled

pub returns-in_err-value : goal.returns-in_err-value
returns-in_err-value g c = values_none c.from_residual.result c.from_residual.ensures.0 c.requires.memo c.value_now.ensures.same
