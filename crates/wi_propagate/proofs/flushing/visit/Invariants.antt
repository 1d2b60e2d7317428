use Rattle.wi_propagate.proofs.Words.{◌≡◌, ◌||◌, ℕ, take, is_one_of, has_visited}
use Rattle.wi_propagate.proofs.flushing.visit.Given as goal

abbrev pub invariant-loop-cell : goal.invariant-loop-cell
invariant-loop-cell l = (c : ℕ) → has_visited l.visited c ≡ (has_visited l.initial.visited c || is_one_of (take l.cell-index l.cells) c)
