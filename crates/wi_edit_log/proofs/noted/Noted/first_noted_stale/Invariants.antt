use Rattle.wi_edit_log.proofs.Words.{take, IsFirst, is_wanted_noted_stale}
use Rattle.wi_edit_log.proofs.noted.Noted.first_noted_stale.Given as goal

abbrev pub invariant-loop-area : goal.invariant-loop-area
invariant-loop-area l = IsFirst (is_wanted_noted_stale (take l.area-index l.wanted) l.self.notes.entries l.session l.since) l.first
