use Rattle.wi_engine.proofs.Words.{◌∙◌, ap, MemoState}
use Rattle.wi_engine.proofs.plan.FullLists.{full_stopped, full_kept, is_unkept, root_value}
use Rattle.wi_engine.proofs.question.Question.planned_value.Goals as goal

-- ---- where memory runs out before the root's value is kept

pub returns-in_err-value-clause-spends : goal.returns-in_err-value-clause-spends
returns-in_err-value-clause-spends g c =
    let u = (rw c.in-First.is at c.in_ok-cell.ensures.asked).unvalued in
    full_stopped u c.requires.full c.requires.plan.memo c.in_err-value.ensures.follows (c.in_err-value.ensures.same ∙ c.in_ok-cell.ensures.same)

pub returns-in_err-shown-clause-spends : goal.returns-in_err-shown-clause-spends
returns-in_err-shown-clause-spends g c =
    let u = (rw c.in-First.is at c.in_ok-cell.ensures.asked).unvalued in
    full_stopped u c.requires.full c.requires.plan.memo c.in_ok-value.ensures.follows (c.in_ok-value.ensures.same ∙ c.in_ok-cell.ensures.same)

-- ---- what is asked of the memory

pub keep-requires-clause-right : goal.keep-requires-clause-right
keep-requires-clause-right g c =
    let u = (rw c.in-First.is at c.in_ok-cell.ensures.asked).unvalued in
    let sheet = ap (λ (x : MemoState). x.sheet) (c.in_ok-value.ensures.same ∙ c.in_ok-cell.ensures.same) ∙ c.requires.plan.memo.sheet in
    rw sheet (root_value u c.in-Some.value (rw c.in-Some.is at c.in_ok-value.ensures.follows.value))

-- ---- where it is kept, or memory runs out while it is

pub returns-in_err-keep-clause-spends : goal.returns-in_err-keep-clause-spends
returns-in_err-keep-clause-spends g c =
    let u = (rw c.in-First.is at c.in_ok-cell.ensures.asked).unvalued in
    let f = c.in_ok-value.ensures.follows in
    full_kept u c.requires.full c.requires.plan.memo f (c.in_ok-value.ensures.same ∙ c.in_ok-cell.ensures.same) c.in_err-keep.ensures.keeps (rw c.in-Some.is at f.value) (rw c.in-Some.is at f.one)

pub returns-clause-spends : goal.returns-clause-spends
returns-clause-spends g c =
    let u = (rw c.in-First.is at c.in_ok-cell.ensures.asked).unvalued in
    let f = c.in_ok-value.ensures.follows in
    full_kept u c.requires.full c.requires.plan.memo f (c.in_ok-value.ensures.same ∙ c.in_ok-cell.ensures.same) c.in_ok-keep.ensures.keeps (rw c.in-Some.is at f.value) (rw c.in-Some.is at f.one)

pub returns-clause-unkept : goal.returns-clause-unkept
returns-clause-unkept g c = is_unkept (rw c.in-First.is at c.in_ok-cell.ensures.asked).unvalued
