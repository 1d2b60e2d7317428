use Rattle.std.proofs.Common.{arith}
use Rattle.wi_cache.proofs.hashed.number_of.Goals as goal

pub returns : goal.returns
returns c = omega arith
