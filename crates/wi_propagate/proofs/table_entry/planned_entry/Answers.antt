use Rattle.wi_propagate.proofs.Words.{List, Option, Ok, OnOk, Case, ap, sym, subst, Value, HasEntry, IsWhatIfSettled, MayBeAsked, MemoState, WhereSpace}
use Rattle.wi_propagate.proofs.EntryQuestions.{entry_no_space, spends_from}
use Rattle.wi_propagate.proofs.table_entry.planned_entry.Goals as goal

-- ---- by a plan

pub returns-in-Some-clause-settled : goal.returns-in-Some-clause-settled
returns-in-Some-clause-settled g c =
    let s = c.args.store.now.sheet in
    let w = c.args.world.now in
    let full = rw c.in-Some.is at c.in_ok-value.ensures.unkept in
    entry_no_space s w c.args.formula_cell c.args.pairs.now (λ ks. IsWhatIfSettled s (g.M.Memo.state c.entry_by_plan.new.question.memo).kept w (c.args.formula_cell, c.args.pairs.now)) full.0 full.1

-- ---- without one

pub open_entry-result-requires : goal.open_entry-result-requires
open_entry-result-requires g c =
    let none = c.in_ok-value.ensures.none (ap (λ (o : Option Value). Ok o) c.in-None.is) in
    record { entry = subst (λ (x : MemoState). MayBeAsked c.args.store.now.sheet x c.args.formula_cell c.args.pairs.now) (sym none.0) c.requires.entry }

pub returns-in-None-clause-spends : goal.returns-in-None-clause-spends
returns-in-None-clause-spends g c =
    let none = c.in_ok-value.ensures.none (ap (λ (o : Option Value). Ok o) c.in-None.is) in
    spends_from none.0 none.1 c.open_entry-result.ensures.spends

pub returns-in-None-clause-settled : goal.returns-in-None-clause-settled
returns-in-None-clause-settled g c =
    let s = c.args.store.now.sheet in
    let w = c.args.world.now in
    let none = c.in_ok-value.ensures.none (ap (λ (o : Option Value). Ok o) c.in-None.is) in
    subst (λ (x : MemoState). OnOk c.open_entry-result.result (WhereSpace s (HasEntry s w c.args.formula_cell c.args.pairs.now) x (λ ks. IsWhatIfSettled s (g.M.Memo.state c.open_entry-result.new.question.memo).kept w (c.args.formula_cell, c.args.pairs.now)))) none.0 c.open_entry-result.ensures.settled
