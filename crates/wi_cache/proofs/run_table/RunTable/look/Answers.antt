use Rattle.std.proofs.Common.{rules}
use Rattle.wi_cache.proofs.run_table.RunTable.look.Goals as goal

pub returns : goal.returns
returns c = search rules
