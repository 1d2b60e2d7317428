use Rattle.std.proofs.Common.{rules}
use Rattle.wi_cache.proofs.given_up.look_up.Goals as goal

pub returns : goal.returns
returns c = search rules
