use Rattle.wi_tiles.proofs.Words.{arith}
use Rattle.wi_tiles.proofs.Ranks.{rank_with}
use Rattle.wi_tiles.proofs.tile.place_of.Goals as goal

pub returns-in-0 : goal.returns-in-0
returns-in-0 c = omega (arith, c.requires.count, rank_with c.args.bits c.args.bit 0 (omega arith) c.in-0.is)

pub overflow_sub-result : goal.overflow_sub-result
overflow_sub-result c = omega (arith, c.requires.count, rank_with c.args.bits c.args.bit 1 (omega arith) c.in-1.is)

pub returns-in-1 : goal.returns-in-1
returns-in-1 c = omega (arith, c.requires.count, rank_with c.args.bits c.args.bit 1 (omega arith) c.in-1.is)
