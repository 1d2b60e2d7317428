use Rattle.wi_graph.proofs.Words.{◌≡◌, take, keys_of}
use Rattle.wi_graph.proofs.cells.edited_cells.Given as goal

abbrev pub invariant-loop-change : goal.invariant-loop-change
invariant-loop-change l = l.cells.items ≡ keys_of (take l.change-index l.changes)
