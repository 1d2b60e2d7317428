use Rattle.wi_lookup_functions.proofs.Words.{sum_if_by}
use Rattle.wi_lookup_functions.proofs.AsValue.{as_value_done, as_value_missing}
use Rattle.wi_lookup_functions.proofs.summing.sum_if_value.Goals as goal

pub returns-clause-done : goal.returns-clause-done
returns-clause-done g c = as_value_done (g.L.Lookup.known_cell c.args.lookup.now) sum_if_by c.args.arguments.now c.sum_if.result c.as_value.result c.as_value.ensures.ends c.sum_if.ensures

pub returns-clause-missing : goal.returns-clause-missing
returns-clause-missing g c = as_value_missing (g.L.Lookup.known_cell c.args.lookup.now) sum_if_by c.args.arguments.now c.sum_if.result c.as_value.result c.as_value.ensures.ends c.sum_if.ensures
