use Rattle.wi_reports.proofs.CostLemmas.{asked_then}
use Rattle.wi_reports.proofs.asking.entry_under.Goals as goal

pub what_if_value-value-requires : goal.what_if_value-value-requires
what_if_value-value-requires g c = c.requires

pub returns-clause-cost : goal.returns-clause-cost
returns-clause-cost g c = asked_then _ _ c.what_if_value-value.ensures.evaluations c.what_if_value-value.ensures.restarts c.lighten.ensures.same_evaluations c.lighten.ensures.same_restarts
