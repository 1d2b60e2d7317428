use Rattle.wi_tiles.proofs.Words.{◌-◌, length}
use Rattle.wi_tiles.proofs.LineLemmas.{Searched}
use Rattle.wi_tiles.proofs.band.next_tile.Given as goal

abbrev pub invariant-loop-place : goal.invariant-loop-place
invariant-loop-place g l = Searched l.area l.tiles l.line l.column l.place

abbrev pub decreases-loop-place : goal.decreases-loop-place
decreases-loop-place g l = length l.tiles - l.place
