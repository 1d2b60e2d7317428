use Rattle.wi_worlds.proofs.Words.{take}
use Rattle.wi_worlds.proofs.TellSteps.{ToldOf}
use Rattle.wi_worlds.proofs.reaches.put_all.Given as goal

-- it is told of the cells passed
abbrev pub invariant-loop-cell : goal.invariant-loop-cell
invariant-loop-cell l = ToldOf l.at (take l.cell-index l.cone) l.fn.reached.entries l.reached.entries
