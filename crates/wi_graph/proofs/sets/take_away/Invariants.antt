use Rattle.wi_graph.proofs.Words.{◌≡◌, ℕ, take, nat_cmp, contains, less_these}
use Rattle.wi_graph.proofs.sets.take_away.Given as goal

abbrev pub invariant-loop-cell : goal.invariant-loop-cell
invariant-loop-cell l = (c : ℕ) → contains nat_cmp l.set c ≡ less_these l.initial.set (take l.cell-index l.cells) c
