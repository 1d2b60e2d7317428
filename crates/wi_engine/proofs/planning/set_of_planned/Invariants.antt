use Rattle.wi_engine.proofs.Words.{◌≡◌, ℕ, take, nat_cmp, contains, is_one_of}
use Rattle.wi_engine.specs.Inner.Plans.{planned_cells}
use Rattle.wi_engine.proofs.planning.set_of_planned.Given as goal

abbrev pub invariant-loop-cell : goal.invariant-loop-cell
invariant-loop-cell l = (c : ℕ) → contains nat_cmp l.set c ≡ is_one_of (take l.cell-index (planned_cells l.cells)) c
