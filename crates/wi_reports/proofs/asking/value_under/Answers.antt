use Rattle.wi_reports.proofs.CostLemmas.{asked_then}
use Rattle.wi_reports.proofs.asking.value_under.Goals as goal

pub value-value-requires : goal.value-value-requires
value-value-requires g c = c.requires

pub returns-clause-cost : goal.returns-clause-cost
returns-clause-cost g c = asked_then _ _ c.value-value.ensures.evaluations c.value-value.ensures.restarts c.lighten.ensures.same_evaluations c.lighten.ensures.same_restarts
