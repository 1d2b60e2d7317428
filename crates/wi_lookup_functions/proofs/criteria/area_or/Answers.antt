use Rattle.std.specs.Prelude.{Ok}
use Rattle.wi_lookup_functions.proofs.Words.{region_of, region_there, region_absent, referred_there}
use Rattle.wi_lookup_functions.proofs.criteria.area_or.Goals as goal

pub returns-in-Some-clause-region : goal.returns-in-Some-clause-region
returns-in-Some-clause-region c = λ cells. region_there c.args.arguments.now c.args.place c.in-Some.argument.now c.area.result c.in-Some.ensures c.area.ensures cells (Ok (region_of cells c.args.default))

pub returns-in-Some-clause-referred : goal.returns-in-Some-clause-referred
returns-in-Some-clause-referred c = referred_there c.args.arguments.now c.args.place c.in-Some.argument.now c.area.result c.in-Some.ensures c.area.ensures

pub returns-in-None-clause-region : goal.returns-in-None-clause-region
returns-in-None-clause-region c = λ cells. region_absent c.args.arguments.now c.args.place c.in-None.ensures cells (Ok (region_of cells c.args.default))
