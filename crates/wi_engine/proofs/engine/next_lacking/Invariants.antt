use Rattle.wi_engine.proofs.Words.{◌≡◌, ℕ, true, is_one_of, AreReadHere, case_at, lacks_cell}
use Rattle.wi_engine.proofs.engine.next_lacking.Given as goal

abbrev pub invariant-loop-at : goal.invariant-loop-at
invariant-loop-at l = record {
  read : AreReadHere l.store.sheet (case_at l.frame.key) l.cells.items;
  lacked : (d : ℕ) → is_one_of l.fn.cells.items d ≡ true → lacks_cell l.store.sheet l.frame.key.world l.frame.found d ≡ true → is_one_of l.cells.items d ≡ true;
}

abbrev pub decreases-loop-at : goal.decreases-loop-at
decreases-loop-at l = goal.left-loop-at l
