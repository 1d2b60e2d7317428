use Rattle.wi_store.proofs.Words.{◌≡◌, ◌++◌, formula_cells}
use Rattle.wi_store.proofs.store.formula_cells.Given as goal

-- what was found, with what is still to come, is all
abbrev pub invariant-loop-cell : goal.invariant-loop-cell
invariant-loop-cell l = l.found.items ++ formula_cells l.cell-iterator ≡ formula_cells l.initial.cell-iterator
