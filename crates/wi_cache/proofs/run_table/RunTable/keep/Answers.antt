use Rattle.std.proofs.Common.{rules}
use Rattle.wi_cache.proofs.run_table.RunTable.keep.Goals as goal

pub returns-clause-ok : goal.returns-clause-ok
returns-clause-ok c = search rules
