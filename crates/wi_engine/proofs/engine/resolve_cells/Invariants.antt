use Rattle.wi_engine.proofs.Words.{◌≡◌, ℕ, true, ◌⊎◌, is_one_of, lacks_cell, Awaits, case_at, lacks, FrameSteps}
use Rattle.wi_engine.specs.declared.frame.Waiting.TheVariants as states
use Rattle.wi_engine.proofs.engine.resolve_cells.Given as goal

abbrev pub invariant-cells : goal.invariant-cells
invariant-cells g l = record {
  steps : FrameSteps l.store.sheet (g.M.Memo.state l.fn.memo) (g.M.Memo.state l.memo) l.fn.frame l.frame 0 true;
  nothing : l.frame.waiting ≡ states.Nothing;
  awaits : Awaits l.store.sheet (case_at l.frame.key) l.frame.found (states.Cells l.at l.others);
  lacked : (d : ℕ) → is_one_of l.fn.others.items d ≡ true → lacks_cell l.store.sheet l.frame.key.world l.frame.found d ≡ true → (is_one_of l.others.items d ≡ true) ⊎ (d ≡ l.at);
}

abbrev pub decreases-cells : goal.decreases-cells
decreases-cells g l = lacks l.store.sheet l.frame.key l.frame.found
