use Rattle.wi_value_functions.proofs.Cutting.{cut_is}
use Rattle.wi_value_functions.proofs.convert.cut.Goals as goal

pub unreachable-requires : goal.unreachable-requires
unreachable-requires c = let made = rw cut_is at c.round_to.ensures in cc

pub returns : goal.returns
returns c = let made = rw cut_is at c.round_to.ensures in cc
