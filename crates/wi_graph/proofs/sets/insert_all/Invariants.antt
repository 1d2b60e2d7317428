use Rattle.wi_graph.proofs.Words.{◌≡◌, ◌||◌, ℕ, take, nat_cmp, contains, is_one_of}
use Rattle.wi_graph.proofs.sets.insert_all.Given as goal

abbrev pub invariant-loop-cell : goal.invariant-loop-cell
invariant-loop-cell l = (c : ℕ) → contains nat_cmp l.set c ≡ (contains nat_cmp l.initial.set c || is_one_of (take l.cell-index l.cells) c)
