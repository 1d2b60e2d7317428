use Rattle.std.proofs.Common.{Some}
use Rattle.wi_arguments.specs.Walk.{HasTaken}
use Rattle.wi_arguments.proofs.Walking.{steps_left}
use Rattle.wi_arguments.proofs.walk.take_cells.Given as goal

abbrev pub invariant-loop-ahead : goal.invariant-loop-ahead
invariant-loop-ahead g l = HasTaken g.T.TakesCells.after (g.L.Lookup.known_cell l.lookup) l.area l.fn.taker (Some l.area.first) l.taker l.ahead

abbrev pub decreases-loop-ahead : goal.decreases-loop-ahead
decreases-loop-ahead g l = steps_left l.area l.ahead
