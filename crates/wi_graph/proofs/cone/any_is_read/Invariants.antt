use Rattle.wi_graph.proofs.Words.{◌≡◌, ℕ, true, take, IsReader, is_one_of}
use Rattle.wi_graph.proofs.cone.any_is_read.Given as goal

abbrev pub invariant-loop-cell : goal.invariant-loop-cell
invariant-loop-cell l = (a r : ℕ) → is_one_of (take l.cell-index l.cells) a ≡ true → IsReader l.readers a r → ⊥
