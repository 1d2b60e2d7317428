use Rattle.wi_engine.proofs.Words.{◌-◌, length}
use Rattle.wi_engine.proofs.planning.Reading.next.Given as goal

abbrev pub decreases-loop-area : goal.decreases-loop-area
decreases-loop-area l = length l.rectangles - l.rectangle
