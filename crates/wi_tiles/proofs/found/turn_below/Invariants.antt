use Rattle.wi_tiles.proofs.Words.{◌-◌, ◌+◌, place, row_of}
use Rattle.wi_tiles.proofs.TurnLemmas.{Reached}
use Rattle.wi_tiles.proofs.found.turn_below.Given as goal

abbrev pub invariant-loop-row : goal.invariant-loop-row
invariant-loop-row g l = Reached l.pages l.area (place l.fn.from l.fn.side) l.row l.column

abbrev pub decreases-loop-row : goal.decreases-loop-row
decreases-loop-row g l = (row_of l.area.last + 1) - l.row
