use Rattle.wi_engine.proofs.Words.{◌≡◌, length, lacks_cell, lacking_after, from_next, passing_from}
use Rattle.wi_engine.proofs.lacking.next_lacking_in.Given as goal

abbrev pub invariant-loop-ahead : goal.invariant-loop-ahead
invariant-loop-ahead l =
    passing_from (lacks_cell l.store.sheet l.frame.key.world l.frame.found) l.store.sheet l.area l.ahead
    ≡ lacking_after l.store.sheet l.frame.key.world l.frame.found l.area l.fn.after

abbrev pub decreases-loop-ahead : goal.decreases-loop-ahead
decreases-loop-ahead l = length (from_next l.store.sheet l.area l.ahead)
