use Rattle.std.proofs.Common.{rules}
use Rattle.wi_cache.proofs.hashed.KeyHash.hash.Goals as goal

pub returns : goal.returns
returns g c = search rules
