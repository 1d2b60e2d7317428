use Rattle.wi_lookup_functions.proofs.NoValues.{sought_halts}
use Rattle.wi_lookup_functions.proofs.arguments.sought_at.Goals as goal

pub returns-in_err-value : goal.returns-in_err-value
returns-in_err-value g c =
    sought_halts (g.L.Lookup.known_cell c.args.lookup.now) c.args.arguments.now c.args.place c.args.zero.now c.from_residual.result c.in_err-value.field-0.0 c.requires c.from_residual.ensures.1 c.in_err-value.ensures
