use Rattle.wi_sessions.proofs.Words.{take, nat_cmp, IsOrdered, is_staged, HasCleared}
use Rattle.wi_sessions.proofs.cells.clear_staged.Given as goal

abbrev pub invariant-loop-at : goal.invariant-loop-at
invariant-loop-at l = record {
  order : IsOrdered nat_cmp l.words;
  less : HasCleared (is_staged (take l.at-index l.staged)) l.initial.words.entries l.words.entries;
}
