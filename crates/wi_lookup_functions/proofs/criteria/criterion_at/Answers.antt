use Rattle.wi_lookup_functions.proofs.Referring.{of_absent, of_there}
use Rattle.wi_lookup_functions.proofs.criteria.criterion_at.Goals as goal

pub returns-in-Some : goal.returns-in-Some
returns-in-Some g c = of_there (g.L.Lookup.known_cell c.args.lookup.now) c.args.arguments.now c.args.place c.in-Some.argument.now c.criterion_in.result c.in-Some.ensures c.criterion_in.ensures

pub returns-in-None : goal.returns-in-None
returns-in-None g c = of_absent (g.L.Lookup.known_cell c.args.lookup.now) c.args.arguments.now c.args.place c.criterion_of.result c.in-None.ensures c.criterion_of.ensures
