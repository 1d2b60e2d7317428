use Rattle.wi_reports.proofs.Words.{ℕ, ◌+◌, ◌-◌, List, ◌++◌, map, ap, ◌∙◌, arith, common_steps, string_bytes, row_of, cells_of_row, entry_text, pairs_at, refl, flat_map, entry_demanded}
use Rattle.wi_reports.proofs.TextLemmas.{one_text, all_texts}
use Rattle.wi_reports.proofs.RowLemmas.{cells_in, row_is}
use Rattle.wi_reports.proofs.CostLemmas.{all_left, within_all, cell_asked, row_left}
use Rattle.wi_reports.proofs.table.push_row_entries.Goals as goal

pub loop-column-preserved : goal.loop-column-preserved
loop-column-preserved g c =
    let old = c.loop-column.invariant in
    let first = c.column-first.result in
    let column = c.loop-column.column in
    record {
      within = omega arith;
      same = c.in_ok-push_entry_at.ensures.same ∙ old.same;
      texts = one_text string_bytes (λ s y. entry_text s.sheet c.args.replacements.now c.args.given.now.formula_cell (pairs_at c.args.given.now.input c.args.given.now.x c.args.given.now.second y)) _ _ _ c.row-row.result first (column - first) (column + 1 - first) column c.at-y.result _ _ (omega arith) (omega arith) old.same c.at-y.ensures
          old.texts c.in_ok-push_entry_at.ensures.text;
      cost = cell_asked (λ s y. entry_demanded s.sheet c.args.replacements.now c.args.given.now.formula_cell (pairs_at c.args.given.now.input c.args.given.now.x c.args.given.now.second y)) _ _ c.at-y.result (cells_in c.row-row.result (column + 1) ((c.column-column-end.result + 1) - (column + 1))) old.same (row_left c.row-row.result column (c.column-column-end.result + 1) c.at-y.result c.loop-column-test.true c.at-y.ensures) old.cost c.in_ok-push_entry_at.ensures.cost;
    }

pub returns-clause-texts : goal.returns-clause-texts
returns-clause-texts g c =
    let cells = c.args.cells in
    let given = c.args.given.now in
    let sheet = (g.C.Calculator.stored c.args.calculator.now).sheet in
    let text : ℕ → List ℕ = λ y. entry_text sheet c.args.replacements.now given.formula_cell (pairs_at given.input given.x given.second y) in
    let first = c.column-first.result in
    all_texts text cells c.row-row.result _ first _ c.column-column-end.result (c.loop-column.column - first) _ _
    c.first-2.ensures c.column-first.ensures.value c.last.ensures c.column-column-end.ensures.value (omega arith) c.loop-column.invariant.texts
    ∙ ap (λ r. map string_bytes c.args.texts.now.items ++ map text (cells_of_row r cells)) (c.row-row.ensures.value ∙ ap row_of c.first.ensures)

pub push_entry_at-requires : goal.push_entry_at-requires
push_entry_at-requires g c = c.requires

pub returns-in_err-push_entry_at-clause-same : goal.returns-in_err-push_entry_at-clause-same
returns-in_err-push_entry_at-clause-same g c = c.in_err-push_entry_at.ensures.same ∙ c.loop-column.invariant.same

pub loop-column-init : goal.loop-column-init
loop-column-init g c =
    let stored = g.C.Calculator.stored c.args.calculator.now in
    let first = c.column-first.result in
    record {
      within = omega arith;
      same = refl;
      texts = grind (arith, common_steps);
      cost = all_left stored.sheet _ (ap (flat_map (λ y. entry_demanded stored.sheet c.args.replacements.now c.args.given.now.formula_cell (pairs_at c.args.given.now.input c.args.given.now.x c.args.given.now.second y)))
          (row_is c.args.cells c.row-row.result _ first _ c.column-column-end.result _ c.first-2.ensures c.column-first.ensures.value c.last.ensures c.column-column-end.ensures.value (omega arith)
          ∙ ap (λ r. cells_of_row r c.args.cells) (c.row-row.ensures.value ∙ ap row_of c.first.ensures)));
    }

pub returns-clause-cost : goal.returns-clause-cost
returns-clause-cost g c = within_all c.loop-column.invariant.cost

pub returns-in_err-push_entry_at-clause-cost : goal.returns-in_err-push_entry_at-clause-cost
returns-in_err-push_entry_at-clause-cost g c =
    let column = c.loop-column.column in
    within_all (cell_asked (λ s y. entry_demanded s.sheet c.args.replacements.now c.args.given.now.formula_cell (pairs_at c.args.given.now.input c.args.given.now.x c.args.given.now.second y)) _ _ c.at-y.result (cells_in c.row-row.result (column + 1) ((c.column-column-end.result + 1) - (column + 1))) c.loop-column.invariant.same
    (row_left c.row-row.result column (c.column-column-end.result + 1) c.at-y.result c.loop-column-test.true c.at-y.ensures) c.loop-column.invariant.cost c.in_err-push_entry_at.ensures.cost)
