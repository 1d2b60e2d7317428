use Rattle.wi_scenarios.proofs.Words.{◌≡◌, ◌++◌, map, drop, None}
use Rattle.wi_scenarios.proofs.clear.emptied.Given as goal

-- what is listed and what is still to be listed
abbrev pub invariant-loop-cell : goal.invariant-loop-cell
invariant-loop-cell l = l.changes.items ++ map (λ a. (a, None)) (drop l.cell-index l.cells) ≡ map (λ a. (a, None)) l.cells
