use Rattle.wi_edit_log.proofs.Words.{◌-◌, ◌≤◌, length, drop, is_wanted_widely, IsFirst}
use Rattle.wi_edit_log.proofs.edit.first_of_wide.Given as goal

abbrev pub invariant-loop-place : goal.invariant-loop-place
invariant-loop-place l =
    record {
      begins : l.from ≤ l.place;
      within : l.place ≤ length l.edits;
      first : IsFirst (is_wanted_widely (drop l.place l.edits) l.session l.wanted) l.first;
    }

abbrev pub decreases-loop-place : goal.decreases-loop-place
decreases-loop-place l = l.place - l.from
