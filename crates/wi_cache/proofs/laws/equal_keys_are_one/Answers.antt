use Rattle.std.proofs.Common.{rules}
use Rattle.wi_cache.proofs.Keys.{alike}
use Rattle.wi_cache.proofs.laws.equal_keys_are_one.Goals as goal

pub returns : goal.returns
returns c = search (rules, alike)
