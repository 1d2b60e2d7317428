use Rattle.wi_lookup_functions.proofs.Words.{h_lookup_value}
use Rattle.wi_lookup_functions.proofs.tables.h_lookup_value.Goals as goal

pub returns-clause-missing : goal.returns-clause-missing
returns-clause-missing g c = c.value_found.ensures.missing c.args.arguments.now h_lookup_value c.look_up.ensures
