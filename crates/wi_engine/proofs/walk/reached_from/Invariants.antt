use Rattle.wi_engine.proofs.Words.{◌≡◌, [], drop, IsWalk, enters}
use Rattle.wi_engine.proofs.walk.reached_from.Given as goal

abbrev pub invariant-loop-cell : goal.invariant-loop-cell
invariant-loop-cell l = IsWalk l.store.sheet l.cells (enters (drop l.cell-index l.cells)) l.walk.progress l.walk.order.items × (l.walk.path.items ≡ [])
