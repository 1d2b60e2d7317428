use Rattle.wi_reports.proofs.Words.{◌≡◌, ◌≤◌, ◌+◌, ◌-◌, ◌++◌, map, string_bytes, text_under, cells_of_row, cells_cases}
use Rattle.wi_reports.proofs.TextLemmas.{texts}
use Rattle.wi_reports.proofs.RowLemmas.{cells_in}
use Rattle.wi_reports.proofs.CostLemmas.{Leaves}
use Rattle.wi_reports.proofs.texts.push_texts.Given as goal

-- the texts before this column are there
abbrev pub invariant-loop-column : goal.invariant-loop-column
invariant-loop-column g l =
    let stored = g.C.Calculator.stored in
    record {
      within : l.column ≤ l.first + (l.column-end - l.first);
      same : stored l.calculator ≡ stored l.fn.calculator;
      texts : map string_bytes l.texts.items ≡ map string_bytes l.fn.texts.items ++ texts (text_under (stored l.fn.calculator).sheet l.fn.replacements) l.row l.first (l.column - l.first);
      cost : Leaves (stored l.fn.calculator).sheet (cells_cases (stored l.fn.calculator).sheet l.fn.replacements (cells_in l.row l.column (l.column-end - l.column))) (cells_cases (stored l.fn.calculator).sheet l.fn.replacements (cells_of_row l.fn.row l.fn.area))
          (g.C.Calculator.evaluated l.fn.calculator, g.C.Calculator.restarted l.fn.calculator) (g.C.Calculator.evaluated l.calculator, g.C.Calculator.restarted l.calculator);
    }
