use Rattle.wi_value_functions.proofs.Words.{sym, ap, ◌∙◌, function_of, takes_between}
use Rattle.wi_value_functions.proofs.Names.{between, call_unknown, call_taken, call_refused}
use Rattle.wi_value_functions.proofs.RowValues.{given_is}
use Rattle.wi_value_functions.proofs.table.function_for.Goals as goal

pub returns-in_default-clause-refused : goal.returns-in_default-clause-refused
returns-in_default-clause-refused c = λ args many. call_unknown c.args.name.now args c.in_default.ensures.none

pub returns-then-is_between-clause-found : goal.returns-then-is_between-clause-found
returns-then-is_between-clause-found c =
    let row = c.in-Some.row.now in
    λ args many. call_taken c.args.name.now args (function_of row) c.in-Some.ensures.some (ap (takes_between row.least row.greatest) many ∙ between row.least row.greatest c.args.count ∙ sym c.is_between.ensures ∙ c.if-is_between.true) ∙ sym (given_is row.function args)

pub returns-else-is_between-clause-refused : goal.returns-else-is_between-clause-refused
returns-else-is_between-clause-refused c =
    let row = c.in-Some.row.now in
    λ args many. call_refused c.args.name.now args (function_of row) c.in-Some.ensures.some (ap (takes_between row.least row.greatest) many ∙ between row.least row.greatest c.args.count ∙ sym c.is_between.ensures ∙ c.if-is_between.false)
