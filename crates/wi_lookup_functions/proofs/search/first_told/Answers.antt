use Rattle.wi_lookup_functions.proofs.Finding.{told_found}
use Rattle.wi_lookup_functions.proofs.search.first_told.Goals as goal

pub returns-in-FirstEqual-Number : goal.returns-in-FirstEqual-Number
returns-in-FirstEqual-Number g c = told_found (g.L.Lookup.known_cell c.args.lookup.now) c.args.line c.args.rule c.args.sought.now c.first_equal.result c.in-FirstEqual-Number.is-0 c.first_equal.ensures
