use Rattle.wi_edit_log.proofs.Words.{places_left}
use Rattle.wi_edit_log.proofs.Noting.{IsNoting}
use Rattle.wi_edit_log.proofs.noted.note_area.Given as goal

abbrev pub invariant-loop-ahead : goal.invariant-loop-ahead
invariant-loop-ahead l = IsNoting l.area l.session l.count l.fn.notes.entries l.notes.entries l.ahead

abbrev pub decreases-loop-ahead : goal.decreases-loop-ahead
decreases-loop-ahead l = places_left l.area l.ahead
