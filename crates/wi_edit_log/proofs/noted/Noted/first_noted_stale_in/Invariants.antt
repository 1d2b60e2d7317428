use Rattle.wi_edit_log.proofs.Words.{places_left, is_noted_stale_of}
use Rattle.wi_edit_log.proofs.Next.{IsSearched}
use Rattle.wi_edit_log.proofs.noted.Noted.first_noted_stale_in.Given as goal

abbrev pub invariant-loop-ahead : goal.invariant-loop-ahead
invariant-loop-ahead l = IsSearched l.area (is_noted_stale_of l.self.notes.entries l.session l.since) l.ahead

abbrev pub decreases-loop-ahead : goal.decreases-loop-ahead
decreases-loop-ahead l = places_left l.area l.ahead
