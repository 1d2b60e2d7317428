use Rattle.wi_store.proofs.IndexLemmas.{AreTakenIn}
use Rattle.wi_store.proofs.indexes.first_cells.Given as goal

-- what was taken in, and what is to come
abbrev pub invariant-loop-at : goal.invariant-loop-at
invariant-loop-at l = AreTakenIn l.initial.at-iterator l.at-iterator l.cells
