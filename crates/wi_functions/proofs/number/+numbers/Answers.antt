use Rattle.std.specs.Bool.{OnTrue}
use Rattle.wi_functions.proofs.Words.{◌≡◌, ◌∙◌, sym, Value, value_or}
use Rattle.wi_functions.proofs.PlacedValues.{placed_there}
use Rattle.wi_functions.proofs.NumberSteps.{chosen_number, with_default}
use Rattle.wi_functions.proofs.number.+numbers.Goals as goal

pub take_parameter-returns-in-Some : goal.take_parameter-returns-in-Some
take_parameter-returns-in-Some t c =
    let is = c.in-Some.ensures.lookup in
    with_default c.take_number.result _ _ c.args.place _
    (λ d. placed_there c.args.parameters.now c.args.place c.in-Some.parameter.now d c.args.values.now is.3.0 is.1) c.take_number.ensures

pub take_chosen-returns-in-Some : goal.take_chosen-returns-in-Some
take_chosen-returns-in-Some t c =
    chosen_number c.take_parameter.result _ c.in-Some.holds c.place_for.result _ c.in-Some.ensures c.place_for.ensures c.take_parameter.ensures
