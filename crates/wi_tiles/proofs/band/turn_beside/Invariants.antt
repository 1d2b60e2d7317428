use Rattle.wi_tiles.proofs.Words.{◌-◌}
use Rattle.wi_tiles.proofs.TurnLemmas.{Passed}
use Rattle.wi_tiles.proofs.band.turn_beside.Given as goal

abbrev pub invariant-loop-row : goal.invariant-loop-row
invariant-loop-row g l = Passed l.tiles l.area l.fn.from l.fn.side l.row l.column l.place

abbrev pub decreases-loop-row : goal.decreases-loop-row
decreases-loop-row g l = l.below - l.row
