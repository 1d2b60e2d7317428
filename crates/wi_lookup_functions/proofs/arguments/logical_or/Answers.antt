use Rattle.wi_lookup_functions.proofs.Words.{refl, sym, ap, ◌∙◌, arguments_in, value_or, to_logical, Logical}
use Rattle.wi_lookup_functions.proofs.Asked.{itself}
use Rattle.wi_lookup_functions.proofs.NoValues.{taken_fails, taken_halts}
use Rattle.wi_lookup_functions.proofs.arguments.logical_or.Goals as goal

pub returns-in_err-value : goal.returns-in_err-value
returns-in_err-value g c =
    taken_halts (g.L.Lookup.known_cell c.args.lookup.now) c.args.arguments.now c.args.place (Logical c.args.default) to_logical c.from_residual.result c.in_err-value.field-0.0 (λ e. refl) c.from_residual.ensures.1 c.in_err-value.ensures

pub returns-in_err-to_logical : goal.returns-in_err-to_logical
returns-in_err-to_logical g c =
    taken_fails (g.L.Lookup.known_cell c.args.lookup.now) c.args.arguments.now c.args.place (Logical c.args.default) to_logical c.from_residual-in_err-to_logical.result c.in_ok-value.value.now c.in_err-to_logical.field-0.0 c.from_residual-in_err-to_logical.ensures.1 c.in_ok-value.ensures c.in_err-to_logical.ensures

pub returns : goal.returns
returns g c = λ cells agrees.
    ap to_logical (itself (value_or (Logical c.args.default) (arguments_in cells c.args.arguments.now) c.args.place) c.in_ok-value.value.now (c.in_ok-value.ensures cells agrees))
    ∙ sym c.in_ok-to_logical.ensures
