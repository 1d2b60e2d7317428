use Rattle.wi_sessions.proofs.Words.{take, nat_cmp, IsOrdered, at_cells, HasMade}
use Rattle.wi_sessions.proofs.cells.stage_each.Given as goal

-- there is room for the cells before this one
abbrev pub invariant-loop-at : goal.invariant-loop-at
invariant-loop-at l = record {
  order : IsOrdered nat_cmp l.words;
  made : HasMade (at_cells (take l.at-index l.cells) l.bits) l.initial.words.entries l.initial.staged.items l.words.entries l.staged.items;
}
