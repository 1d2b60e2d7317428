use Rattle.wi_lookup_functions.proofs.Words.{refl, to_whole, Empty}
use Rattle.wi_lookup_functions.proofs.NoValues.{taken_fails, taken_halts}
use Rattle.wi_lookup_functions.proofs.arguments.whole_at.Goals as goal

pub returns-in_err-value : goal.returns-in_err-value
returns-in_err-value g c =
    taken_halts (g.L.Lookup.known_cell c.args.lookup.now) c.args.arguments.now c.args.place Empty to_whole c.from_residual.result c.in_err-value.field-0.0 (λ e. refl) c.from_residual.ensures.1 c.in_err-value.ensures

pub returns-in_err-to_whole : goal.returns-in_err-to_whole
returns-in_err-to_whole g c =
    taken_fails (g.L.Lookup.known_cell c.args.lookup.now) c.args.arguments.now c.args.place Empty to_whole c.from_residual-in_err-to_whole.result c.in_ok-value.value.now c.in_err-to_whole.field-0.0 c.from_residual-in_err-to_whole.ensures.1 c.in_ok-value.ensures c.in_err-to_whole.ensures
