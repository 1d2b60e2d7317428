use Rattle.wi_engine.proofs.Words.{rules}
use Rattle.wi_engine.proofs.what_if.value_of_what_if.Goals as goal

pub returns-clause-counts : goal.returns-clause-counts
returns-clause-counts c = search rules
