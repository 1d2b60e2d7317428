use Rattle.wi_sessions.proofs.Words.{◌≡◌, ℕ, List, length}
use Rattle.wi_sessions.proofs.WordLemmas.{Words}
use Rattle.wi_sessions.proofs.PlaceLemmas.{HaveBegun, LeftAsWere}
use Rattle.wi_sessions.proofs.unread.begin_anew.Given as goal

abbrev pub invariant-loop-i : goal.invariant-loop-i
invariant-loop-i l = record {
  lists : length l.unread.items ≡ length l.initial.unread.items;
  done : (words : Words) (changed : List ℕ) → length changed ≡ l.count → HaveBegun words changed l.initial.unread.items l.unread.items l.i;
  left : LeftAsWere l.initial.unread.items l.unread.items l.i;
}
