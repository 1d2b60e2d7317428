use Rattle.wi_engine.proofs.Words.{◌≡◌, ℕ, ◌&&◌, take, nat_cmp, contains, is_one_of, reaches}
use Rattle.wi_engine.proofs.cone.cone.Given as goal

abbrev pub invariant-loop-cell : goal.invariant-loop-cell
invariant-loop-cell l = (c : ℕ) → contains nat_cmp l.cone c ≡ (is_one_of (take l.cell-index l.order) c && reaches l.store.sheet c l.fn.at)
