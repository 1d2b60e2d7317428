use Rattle.wi_scenarios.proofs.Words.{◌≡◌, ◌∙◌, ◌++◌, ◌&&◌, true, false, nat_le, List, refl, ap, rules, max_area, book_by, state_of, is_column, has_row, entries, table_of, asked_same, nothing_asked, table_cases, Replacement}
use Rattle.wi_scenarios.proofs.CallLemmas.{look_refused, look_lacked, look_done}
use Rattle.wi_scenarios.proofs.LookSteps.{table_found}
use Rattle.wi_scenarios.proofs.table.table.Goals as goal

pub returns-then-not-is_shaped-clause-looks : goal.returns-then-not-is_shaped-clause-looks
returns-then-not-is_shaped-clause-looks g c =
    let old = book_by g.C.Calculator.stored g.C.Calculator.evaluated g.C.Calculator.restarted c.args.calculator.now c.args.desk.now in
    let t = c.args.table.now in
    let shaped : false ≡ (is_column t.column && has_row t.second) = search rules in
    look_refused _ old c.args.out.now.items (table_found old.state t.formula_cell t.input t.column t.second c.requires.placed false (nat_le (entries t.column t.second) max_area) shaped refl, refl, refl)

pub returns-then-not-is_within-clause-looks : goal.returns-then-not-is_within-clause-looks
returns-then-not-is_within-clause-looks g c =
    let old = book_by g.C.Calculator.stored g.C.Calculator.evaluated g.C.Calculator.restarted c.args.calculator.now c.args.desk.now in
    let t = c.args.table.now in
    let shaped : true ≡ (is_column t.column && has_row t.second) = search rules in
    let within : false ≡ nat_le (entries t.column t.second) max_area = search rules in
    look_refused _ old c.args.out.now.items (table_found old.state t.formula_cell t.input t.column t.second c.requires.placed true false shaped within, refl, refl)

pub returns-in_err-put-clause-looks : goal.returns-in_err-put-clause-looks
returns-in_err-put-clause-looks g c =
    let old = book_by g.C.Calculator.stored g.C.Calculator.evaluated g.C.Calculator.restarted c.args.calculator.now c.args.desk.now in
    let t = c.args.table.now in
    let shaped : true ≡ (is_column t.column && has_row t.second) = search rules in
    let within : true ≡ nat_le (entries t.column t.second) max_area = search rules in
    look_lacked _ c.from_residual.result old old c.args.out.now.items c.args.out.now.items (table_found old.state t.formula_cell t.input t.column t.second c.requires.placed true true shaped within) c.from_residual.ensures.1 refl refl refl (nothing_asked _ _ _)

pub returns-in_err-push_table-clause-looks : goal.returns-in_err-push_table-clause-looks
returns-in_err-push_table-clause-looks g c =
    let old = book_by g.C.Calculator.stored g.C.Calculator.evaluated g.C.Calculator.restarted c.args.calculator.now c.args.desk.now in
    let t = c.args.table.now in
    let shaped : true ≡ (is_column t.column && has_row t.second) = search rules in
    let within : true ≡ nat_le (entries t.column t.second) max_area = search rules in
    look_lacked _ c.from_residual-in_err-push_table.result old _ _ _ (table_found old.state t.formula_cell t.input t.column t.second c.requires.placed true true shaped within)
    c.from_residual-in_err-push_table.ensures.1 (ap (λ x. state_of x c.args.desk.now) c.in_err-push_table.ensures.same) refl c.in_err-push_table.ensures.err
    (asked_same (ap (λ (rs : List Replacement). table_cases old.state.stored.sheet rs t.formula_cell t.input t.column t.second) (c.deref.ensures.value ∙ c.in_ok-put.ensures.value)) c.in_err-push_table.ensures.cost)

pub returns-clause-looks : goal.returns-clause-looks
returns-clause-looks g c =
    let old = book_by g.C.Calculator.stored g.C.Calculator.evaluated g.C.Calculator.restarted c.args.calculator.now c.args.desk.now in
    let t = c.args.table.now in
    let shaped : true ≡ (is_column t.column && has_row t.second) = search rules in
    let within : true ≡ nat_le (entries t.column t.second) max_area = search rules in
    look_done old _ _ _ _ (table_found old.state t.formula_cell t.input t.column t.second c.requires.placed true true shaped within)
    (c.in_ok-push_table.ensures.ok ∙ ap (λ (rs : List Replacement). c.args.out.now.items ++ table_of old.state.stored.sheet rs t.formula_cell t.input t.column t.second) (c.deref.ensures.value ∙ c.in_ok-put.ensures.value))
    (ap (λ x. state_of x c.args.desk.now) c.in_ok-push_table.ensures.same) refl
    (asked_same (ap (λ (rs : List Replacement). table_cases old.state.stored.sheet rs t.formula_cell t.input t.column t.second) (c.deref.ensures.value ∙ c.in_ok-put.ensures.value)) c.in_ok-push_table.ensures.cost)
