use Rattle.wi_lookup_functions.proofs.Words.{refl, to_number, Number}
use Rattle.wi_lookup_functions.proofs.NoValues.{taken_fails, taken_halts}
use Rattle.wi_lookup_functions.proofs.arguments.number_or.Goals as goal

pub returns-in_err-value : goal.returns-in_err-value
returns-in_err-value g c =
    taken_halts (g.L.Lookup.known_cell c.args.lookup.now) c.args.arguments.now c.args.place (Number c.args.default) to_number c.from_residual.result c.in_err-value.field-0.0 (λ e. refl) c.from_residual.ensures.1 c.in_err-value.ensures

pub returns-in_err-to_number : goal.returns-in_err-to_number
returns-in_err-to_number g c =
    taken_fails (g.L.Lookup.known_cell c.args.lookup.now) c.args.arguments.now c.args.place (Number c.args.default) to_number c.from_residual-in_err-to_number.result c.in_ok-value.value.now c.in_err-to_number.field-0.0 c.from_residual-in_err-to_number.ensures.1 c.in_ok-value.ensures c.in_err-to_number.ensures
