use Rattle.wi_sessions.proofs.Words.{take, nat_cmp, IsOrdered, at_cells, HasCleared}
use Rattle.wi_sessions.proofs.cells.clear_each.Given as goal

abbrev pub invariant-loop-at : goal.invariant-loop-at
invariant-loop-at l = record {
  order : IsOrdered nat_cmp l.words;
  less : HasCleared (at_cells (take l.at-index l.cells) l.bits) l.initial.words.entries l.words.entries;
}
