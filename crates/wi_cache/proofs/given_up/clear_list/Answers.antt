use Rattle.std.proofs.Common.{rules}
use Rattle.wi_cache.proofs.given_up.clear_list.Goals as goal

pub returns-then-is_reused : goal.returns-then-is_reused
returns-then-is_reused c = search rules
