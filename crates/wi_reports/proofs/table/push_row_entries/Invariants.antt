use Rattle.wi_reports.proofs.Words.{◌≡◌, ◌≤◌, ◌+◌, ◌-◌, ◌++◌, map, string_bytes, entry_text, pairs_at, flat_map, row_of, cells_of_row, entry_demanded}
use Rattle.wi_reports.proofs.TextLemmas.{texts}
use Rattle.wi_reports.proofs.RowLemmas.{cells_in}
use Rattle.wi_reports.proofs.CostLemmas.{Leaves}
use Rattle.wi_reports.proofs.table.push_row_entries.Given as goal

-- the texts of the entries before this column are there
abbrev pub invariant-loop-column : goal.invariant-loop-column
invariant-loop-column g l =
    let stored = g.C.Calculator.stored in
    record {
      within : l.column ≤ l.first + (l.column-end - l.first);
      same : stored l.calculator ≡ stored l.fn.calculator;
      texts : map string_bytes l.texts.items ≡ map string_bytes l.fn.texts.items
          ++ texts (λ y. entry_text (stored l.fn.calculator).sheet l.fn.replacements l.fn.given.formula_cell (pairs_at l.fn.given.input l.fn.given.x l.fn.given.second y)) l.row l.first (l.column - l.first);
      cost : Leaves (stored l.fn.calculator).sheet (flat_map (λ y. entry_demanded (stored l.fn.calculator).sheet l.fn.replacements l.fn.given.formula_cell (pairs_at l.fn.given.input l.fn.given.x l.fn.given.second y)) (cells_in l.row l.column (l.column-end - l.column))) (flat_map (λ y. entry_demanded (stored l.fn.calculator).sheet l.fn.replacements l.fn.given.formula_cell (pairs_at l.fn.given.input l.fn.given.x l.fn.given.second y)) (cells_of_row (row_of l.fn.cells.first) l.fn.cells))
          (g.C.Calculator.evaluated l.fn.calculator, g.C.Calculator.restarted l.fn.calculator) (g.C.Calculator.evaluated l.calculator, g.C.Calculator.restarted l.calculator);
    }
