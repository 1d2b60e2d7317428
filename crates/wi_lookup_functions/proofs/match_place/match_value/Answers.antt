use Rattle.wi_lookup_functions.proofs.Words.{match_value}
use Rattle.wi_lookup_functions.proofs.match_place.match_value.Goals as goal

pub returns-clause-done : goal.returns-clause-done
returns-clause-done g c = c.value_placed.ensures.done (g.L.Lookup.known_cell c.args.lookup.now) c.args.arguments.now match_value c.match_place.ensures

pub returns-clause-missing : goal.returns-clause-missing
returns-clause-missing g c = c.value_placed.ensures.missing (g.L.Lookup.known_cell c.args.lookup.now) c.args.arguments.now match_value c.match_place.ensures
