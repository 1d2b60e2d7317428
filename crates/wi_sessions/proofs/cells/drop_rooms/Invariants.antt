use Rattle.wi_sessions.proofs.Words.{◌&&◌, take, nat_cmp, IsOrdered, has_bit, is_staged, HasCleared}
use Rattle.wi_sessions.proofs.cells.drop_rooms.Given as goal

abbrev pub invariant-loop-at : goal.invariant-loop-at
invariant-loop-at l = record {
  order : IsOrdered nat_cmp l.words;
  less : HasCleared (λ i c. is_staged (take l.at-index l.staged) i c && has_bit i l.bit) l.initial.words.entries l.words.entries;
}
