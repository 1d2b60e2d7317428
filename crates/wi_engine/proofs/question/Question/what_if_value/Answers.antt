use Rattle.wi_engine.proofs.Words.{◌∙◌, ap, MemoState}
use Rattle.wi_engine.proofs.plan.FullLists.{root_value}
use Rattle.wi_engine.proofs.what_if.CasesBelow.{follows_cell, follows_stopped}
use Rattle.wi_engine.proofs.what_if.TriedCells.{tries_kept, tries_lost, tries_stopped}
use Rattle.wi_engine.proofs.question.Question.what_if_value.Goals as goal

-- ---- where memory runs out before the cell's value is kept

pub returns-in_err-found : goal.returns-in_err-found
returns-in_err-found g c =
    let u = (rw c.in-First.is at c.in_ok-cell.ensures.asked).unvalued in
    let r = c.from_residual-in_err-found in
    let follows = follows_stopped c.requires.what_if c.requires.read.open_cell c.in_err-found.ensures.finds r.result r.ensures.0 in
    tries_stopped u c.requires.full c.requires.plan.memo r.result r.ensures.0 follows (c.in_err-found.ensures.same ∙ c.in_ok-cell.ensures.same)

pub returns-in_err-value : goal.returns-in_err-value
returns-in_err-value g c =
    let u = (rw c.in-First.is at c.in_ok-cell.ensures.asked).unvalued in
    let r = c.from_residual-in_err-value in
    let follows = follows_stopped c.requires.what_if c.requires.read.open_cell c.in_ok-found.ensures.finds r.result r.ensures.0 in
    rw c.in_err-value.ensures.err (tries_stopped u c.requires.full c.requires.plan.memo r.result r.ensures.0 follows (c.in_ok-found.ensures.same ∙ c.in_ok-cell.ensures.same))

pub returns-in_err-shown : goal.returns-in_err-shown
returns-in_err-shown g c =
    let u = (rw c.in-First.is at c.in_ok-cell.ensures.asked).unvalued in
    let r = c.from_residual-in_err-shown in
    let follows = follows_cell c.requires.what_if c.requires.read.open_cell (rw c.in-Some.is at c.in_ok-found.ensures.finds) c.in_ok-value.ensures.counts c.in_ok-value.ensures.value in
    tries_stopped u c.requires.full c.requires.plan.memo r.result r.ensures.0 follows (c.in_ok-found.ensures.same ∙ c.in_ok-cell.ensures.same)

-- ---- what is asked of the memory

pub keep-requires-clause-right : goal.keep-requires-clause-right
keep-requires-clause-right g c =
    let u = (rw c.in-First.is at c.in_ok-cell.ensures.asked).unvalued in
    let sheet = ap (λ (x : MemoState). x.sheet) (c.in_ok-found.ensures.same ∙ c.in_ok-cell.ensures.same) ∙ c.requires.plan.memo.sheet in
    let follows = follows_cell c.requires.what_if c.requires.read.open_cell (rw c.in-Some.is at c.in_ok-found.ensures.finds) c.in_ok-value.ensures.counts c.in_ok-value.ensures.value in
    rw sheet (root_value u c.in_ok-value.value follows.value)

-- ---- where it is kept, or memory runs out while it is

pub returns-in_err-keep : goal.returns-in_err-keep
returns-in_err-keep g c =
    let u = (rw c.in-First.is at c.in_ok-cell.ensures.asked).unvalued in
    let r = c.from_residual-in_err-keep in
    let follows = follows_cell c.requires.what_if c.requires.read.open_cell (rw c.in-Some.is at c.in_ok-found.ensures.finds) c.in_ok-value.ensures.counts c.in_ok-value.ensures.value in
    tries_lost u c.requires.full c.requires.plan.memo r.result r.ensures.0 follows (c.in_ok-found.ensures.same ∙ c.in_ok-cell.ensures.same) c.in_err-keep.ensures.keeps

pub returns : goal.returns
returns g c =
    let u = (rw c.in-First.is at c.in_ok-cell.ensures.asked).unvalued in
    let follows = follows_cell c.requires.what_if c.requires.read.open_cell (rw c.in-Some.is at c.in_ok-found.ensures.finds) c.in_ok-value.ensures.counts c.in_ok-value.ensures.value in
    tries_kept u c.requires.full c.requires.plan.memo follows (c.in_ok-found.ensures.same ∙ c.in_ok-cell.ensures.same) c.in_ok-keep.ensures.keeps c.in_ok-keep.ensures.there c.in_ok-shown.ensures
