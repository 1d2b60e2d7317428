use Rattle.wi_lookup_functions.proofs.Words.{index_value}
use Rattle.wi_lookup_functions.proofs.index.index_value.Goals as goal

pub returns-clause-missing : goal.returns-clause-missing
returns-clause-missing g c = c.value_found.ensures.missing c.args.arguments.now index_value c.index.ensures
