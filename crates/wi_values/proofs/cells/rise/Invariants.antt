use Rattle.wi_values.proofs.Words.{◌<◌, ◌+◌, ℕ, slice_index}
use Rattle.wi_values.proofs.cells.rise.Given as goal

abbrev pub invariant-loop-i : goal.invariant-loop-i
invariant-loop-i l = (k : ℕ) → k + 1 < l.i → slice_index l.cells k < slice_index l.cells (k + 1)
