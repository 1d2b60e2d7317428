use Rattle.wi_functions.proofs.PlacedValues.{value_found, value_beyond}
use Rattle.wi_functions.proofs.placed.at_place.Goals as goal

pub returns-in-Some-clause-some : goal.returns-in-Some-clause-some
returns-in-Some-clause-some c =
    let is = c.in-Some.ensures.lookup in
    value_found c.args.values.now c.args.place c.in-Some.value.now is.3.0 is.1

pub returns-in-None-clause-none : goal.returns-in-None-clause-none
returns-in-None-clause-none c = value_beyond c.args.values.now c.args.place c.in-None.ensures.lookup.3
