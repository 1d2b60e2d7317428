use Rattle.wi_reports.proofs.Words.{◌≡◌, ◌++◌, [], drop, shown, changes_among, cells_cases}
use Rattle.wi_reports.proofs.CostLemmas.{Leaves}
use Rattle.wi_reports.proofs.changes.find_changes.Given as goal

-- what was found, with what is still to come, is all
abbrev pub invariant-loop-at : goal.invariant-loop-at
invariant-loop-at g l =
    let stored = g.C.Calculator.stored in
    let evaluated = g.C.Calculator.evaluated in
    let restarted = g.C.Calculator.restarted in
    let sheet = (stored l.fn.calculator).sheet in
    let shown_now = shown sheet l.replacements in
    record {
      same : stored l.calculator ≡ stored l.fn.calculator;
      found : l.found.items ++ changes_among (drop l.at-index l.cells) l.picture shown_now ≡ changes_among l.cells l.picture shown_now;
      quiet : l.cells ≡ [] → (evaluated l.calculator ≡ evaluated l.fn.calculator) × (restarted l.calculator ≡ restarted l.fn.calculator);
      cost : Leaves sheet (cells_cases sheet l.replacements (drop l.at-index l.cells)) (cells_cases sheet l.replacements l.cells) (evaluated l.fn.calculator, restarted l.fn.calculator) (evaluated l.calculator, restarted l.calculator);
    }
