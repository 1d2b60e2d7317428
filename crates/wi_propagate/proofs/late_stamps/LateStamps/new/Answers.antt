use Rattle.wi_propagate.proofs.Words.{ap, renewed_all}
use Rattle.wi_propagate.proofs.late_stamps.LateStamps.new.Goals as goal

pub returns : goal.returns
returns c = let a = ap (renewed_all 0 0) c.new-numbers.ensures in search (a, c.new-cone.ensures.items)
