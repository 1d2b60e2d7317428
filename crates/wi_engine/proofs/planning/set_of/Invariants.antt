use Rattle.wi_engine.proofs.Words.{◌≡◌, ℕ, take, nat_cmp, contains, is_one_of}
use Rattle.wi_engine.proofs.planning.set_of.Given as goal

abbrev pub invariant-loop-cell : goal.invariant-loop-cell
invariant-loop-cell l = (c : ℕ) → contains nat_cmp l.set c ≡ is_one_of (take l.cell-index l.cells) c
