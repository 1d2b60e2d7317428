use Rattle.wi_engine.proofs.Words.{◌∙◌, ap, sym, subst, Sheet, content_of, put_all, MemoState, IsMemoOf, MayBeRead, IsUnvaluedKey}
use Rattle.wi_engine.proofs.engine.RunsWithSpace.{values_known, values_none, values_then}
use Rattle.wi_engine.proofs.question.Question.formula_value.Goals as goal

-- ---- what is asked of the memory, whose sheet is the store's, and of the run

pub remembered_value-requires-clause-memo : goal.remembered_value-requires-clause-memo
remembered_value-requires-clause-memo g c = subst (λ (x : Sheet). IsMemoOf x (g.M.Memo.state c.args.self.now.memo)) (sym c.requires.memo.sheet) c.requires.memo

pub remembered_value-requires-clause-read : goal.remembered_value-requires-clause-read
remembered_value-requires-clause-read g c = subst (λ (x : Sheet). MayBeRead x (g.M.Memo.state c.args.self.now.memo) c.args.at) (sym c.requires.memo.sheet) c.requires.read

pub remembered_value-requires-clause-formula : goal.remembered_value-requires-clause-formula
remembered_value-requires-clause-formula g c = ap (λ (x : Sheet). content_of (put_all x c.args.world.now) c.args.at) c.requires.memo.sheet ∙ c.requires.formula

pub run-requires-clause-memo : goal.run-requires-clause-memo
run-requires-clause-memo g c = subst (λ (x : MemoState). IsMemoOf c.args.store.now.sheet x) (sym c.in_ok-remembered.ensures.same) c.requires.memo

pub run-requires-clause-key : goal.run-requires-clause-key
run-requires-clause-key g c =
    let there = rw (c.in-First.is, c.requires.memo.sheet) at c.in_ok-remembered.ensures.asked in
    subst (λ (x : MemoState). IsUnvaluedKey c.args.store.now.sheet x c.in-First.cell.key) (sym c.in_ok-remembered.ensures.same) there.unvalued.to_find

pub run-requires-clause-formula : goal.run-requires-clause-formula
run-requires-clause-formula g c =
    let there = rw (c.in-First.is, c.requires.memo.sheet) at c.in_ok-remembered.ensures.asked in
    there.stands

-- ---- a value that is remembered, one that has to be found, and where memory runs out

pub returns-in-Ready : goal.returns-in-Ready
returns-in-Ready g c =
    let shown = rw (c.in-Ready.is, c.requires.memo.sheet) at c.in_ok-remembered.ensures.asked in
    let there = values_known {c = c.args.self.now.meter} c.requires.memo c.in_ok-remembered.ensures.same shown in
    search there

pub returns-in-First : goal.returns-in-First
returns-in-First g c =
    let there = rw (c.in-First.is, c.requires.memo.sheet) at c.in_ok-remembered.ensures.asked in
    let r = c.run.ensures in
    values_then there.unvalued c.run.result c.requires.memo c.in_ok-remembered.ensures.same r.value r.spends r.kept r.settled

pub returns-in_err-remembered : goal.returns-in_err-remembered
returns-in_err-remembered g c = values_none c.from_residual.result c.from_residual.ensures.0 c.requires.memo c.remembered_value.ensures.same
