use Rattle.wi_lookup_functions.proofs.Referring.{got}
use Rattle.wi_lookup_functions.proofs.criteria.argument_at.Goals as goal

pub returns : goal.returns
returns c = got c.args.arguments.now c.args.place c.get.result c.get.ensures.lookup
