use Rattle.wi_sheet.proofs.Demands as demands
use Rattle.wi_propagate.proofs.Words.{demand_by_replacements}
use Rattle.wi_propagate.proofs.laws.demand_by_step.Goals as goal

pub returns-clause-step : goal.returns-clause-step
returns-clause-step c = demands.demand_by_step

pub returns-clause-replacements : goal.returns-clause-replacements
returns-clause-replacements c = demand_by_replacements

pub returns-clause-circular : goal.returns-clause-circular
returns-clause-circular c = demands.demand_circular

pub returns-clause-plain : goal.returns-clause-plain
returns-clause-plain c = demands.demand_plain
