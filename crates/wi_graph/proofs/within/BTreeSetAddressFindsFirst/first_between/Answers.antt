use Rattle.wi_graph.proofs.WithinSteps.{range_first, range_none}
use Rattle.wi_graph.proofs.within.BTreeSetAddressFindsFirst.first_between.Goals as goal

pub returns-in-Some-clause-first : goal.returns-in-Some-clause-first
returns-in-Some-clause-first c = range_first c.args.self.now c.args.from c.args.to c.in-Some.cell.now c.range.result _ (c.range.ensures.in_range tt) c.in-Some.ensures.steps

pub returns-in-None-clause-first : goal.returns-in-None-clause-first
returns-in-None-clause-first c = range_none c.args.self.now c.args.from c.args.to c.range.result (c.range.ensures.in_range tt) c.in-None.ensures.steps.0
