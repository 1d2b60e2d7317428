use Rattle.wi_tiles.proofs.Words.{◌≤◌, length, IsKept, at_window}
use Rattle.wi_tiles.proofs.window.trim_end.Given as goal

abbrev pub invariant-loop-parts : goal.invariant-loop-parts
invariant-loop-parts g l = record {
  most : length l.parts.items ≤ length l.fn.parts.items;
  kept : IsKept (at_window g.T.Places.at) (l.first, l.fn.parts.items) (l.first, l.parts.items);
}

abbrev pub decreases-loop-parts : goal.decreases-loop-parts
decreases-loop-parts g l = length l.parts.items
