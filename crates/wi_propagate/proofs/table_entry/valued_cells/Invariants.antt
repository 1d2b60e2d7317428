use Rattle.wi_propagate.proofs.Words.{◌≡◌, ◌∷◌, map, take}
use Rattle.wi_propagate.proofs.table_entry.valued_cells.Given as goal

abbrev pub invariant-loop-pair : goal.invariant-loop-pair
invariant-loop-pair l = l.cells.items ≡ l.fn.formula_cell ∷ map (λ x. x.1) (take l.pair-index l.pairs)
