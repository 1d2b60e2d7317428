use Rattle.wi_propagate.proofs.Words.{ℕ, Bool, List, ap, refl, ◌∙◌, Value, Replacement, put_all, zero_for_empty, cell_value, spends_then, spends_weaken, spends_err}
use Rattle.wi_propagate.proofs.EntryQuestions.{has_formula_cell, entry_settled}
use Rattle.wi_propagate.proofs.table_entry.open_entry.Goals as goal

pub returns-in_err-replaced-clause-spends : goal.returns-in_err-replaced-clause-spends
returns-in_err-replaced-clause-spends g c = spends_err c.from_residual.result c.from_residual.ensures.0 (spends_weaken refl (λ ks top. top.0) (λ d. d) c.in_err-replaced.ensures.spends)

pub returns-in_err-value-clause-spends : goal.returns-in_err-value-clause-spends
returns-in_err-value-clause-spends g c =
    let w = c.in_ok-replaced.ensures in
    spends_err c.from_residual-in_err-value.result c.from_residual-in_err-value.ensures.0 (spends_then (λ ks top. top.0) (has_formula_cell c.args.store.now.sheet c.args.world.now c.args.formula_cell c.args.pairs.now c.in_ok-replaced.replaced w.world) w.spends c.in_err-value.ensures.spends)

pub returns-clause-spends : goal.returns-clause-spends
returns-clause-spends g c =
    let w = c.in_ok-replaced.ensures in
    spends_then (λ ks top. top.0) (has_formula_cell c.args.store.now.sheet c.args.world.now c.args.formula_cell c.args.pairs.now c.in_ok-replaced.replaced w.world) w.spends c.in_ok-value.ensures.spends

pub returns-clause-settled : goal.returns-clause-settled
returns-clause-settled g c =
    let w = c.in_ok-replaced.ensures in
    let v = c.in_ok-value.ensures in
    entry_settled c.args.store.now.sheet c.args.world.now c.args.formula_cell c.args.pairs.now c.in_ok-replaced.replaced w.world _ _ _ _ _ _ w.spends v.spends w.settled v.settled

pub value-requires-clause-memo : goal.value-requires-clause-memo
value-requires-clause-memo g c = c.in_ok-replaced.ensures.spends.right

pub with_inputs-requires-clause-memo : goal.with_inputs-requires-clause-memo
with_inputs-requires-clause-memo g c = c.requires.entry.memo

pub with_inputs-requires-clause-replacing : goal.with_inputs-requires-clause-replacing
with_inputs-requires-clause-replacing g c = c.requires.entry.replacing

pub value-requires-clause-read : goal.value-requires-clause-read
value-requires-clause-read g c =
    record {
      open_cell = c.requires.entry.formula_cell.open_cell;
      covered = λ h. ap (λ (cs : ℕ → Bool). cs c.args.formula_cell) c.in_ok-replaced.ensures.spends.same.covers ∙ c.requires.entry.formula_cell.covered h;
    }

pub returns-clause-value : goal.returns-clause-value
returns-clause-value g c =
    c.zero_for_empty.ensures ∙ ap (λ (v : Value). zero_for_empty v) c.in_ok-value.ensures.value
    ∙ ap (λ (w : List Replacement). zero_for_empty (cell_value (put_all c.args.store.now.sheet w) c.args.formula_cell)) c.in_ok-replaced.ensures.world
