use Rattle.wi_engine.proofs.Words.{◌≡◌, ◌-◌, true, NeverFall, spare, FrameSteps}
use Rattle.wi_engine.proofs.engine.advance.Given as goal

abbrev pub invariant-rounds : goal.invariant-rounds
invariant-rounds g l = record {
  steps : FrameSteps l.store.sheet (g.M.Memo.state l.fn.memo) (g.M.Memo.state l.memo) l.fn.frame l.frame (l.meter.restarts - l.fn.meter.restarts) true;
  evaluations : l.meter.evaluations ≡ l.fn.meter.evaluations;
  counts : NeverFall l.fn.meter l.meter;
}

-- how often the formula may still be evaluated again
abbrev pub decreases-rounds : goal.decreases-rounds
decreases-rounds g l = spare l.store.sheet l.frame
