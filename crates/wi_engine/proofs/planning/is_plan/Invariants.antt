use Rattle.wi_engine.proofs.Words.{◌≡◌, ◌||◌, ℕ, take, nat_cmp, contains, is_one_of}
use Rattle.wi_engine.specs.Inner.Plans.{planned_cells}
use Rattle.wi_engine.proofs.planning.NextPlanned.{ArePlannedTo}
use Rattle.wi_engine.proofs.planning.is_plan.Given as goal

abbrev pub invariant-loop-cell : goal.invariant-loop-cell
invariant-loop-cell l =
    record {
      planned : ArePlannedTo l.store.sheet l.inputs l.root l.cells l.cell-index;
      settled : (c : ℕ) → contains nat_cmp l.settled c ≡ (is_one_of l.inputs c || is_one_of (take l.cell-index (planned_cells l.cells)) c);
    }
