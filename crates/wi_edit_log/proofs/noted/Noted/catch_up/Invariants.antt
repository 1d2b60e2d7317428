use Rattle.wi_edit_log.proofs.Words.{◌≡◌, length, AreNoted}
use Rattle.wi_edit_log.proofs.noted.Noted.catch_up.Given as goal

abbrev pub invariant-loop-place : goal.invariant-loop-place
invariant-loop-place l = record {
  next : length l.self.narrow.items ≡ l.place;
  noted : AreNoted l.edits l.self.narrow.items l.self.notes.entries;
}
