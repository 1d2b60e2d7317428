use Rattle.wi_tiles.proofs.Words.{◌-◌, ◌+◌, ◌<◌, length, IsKept, at_window, span, Fits}
use Rattle.wi_tiles.proofs.window.lengthen.Given as goal

abbrev pub invariant-up : goal.invariant-up
invariant-up g l = record {
  bound : l.first + l.place < span → Fits l.first l.fn.parts.items → Fits l.first l.parts.items;
  kept : IsKept (at_window g.T.Places.at) (l.first, l.fn.parts.items) (l.first, l.parts.items);
}

abbrev pub decreases-up : goal.decreases-up
decreases-up g l = (l.place + 1) - length l.parts.items
