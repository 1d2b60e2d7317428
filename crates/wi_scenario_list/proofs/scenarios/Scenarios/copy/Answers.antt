use Rattle.wi_scenario_list.proofs.Words.{◌∙◌}
use Rattle.wi_scenario_list.proofs.Stored.{cloned}
use Rattle.wi_scenario_list.proofs.scenarios.Scenarios.copy.Goals as goal

pub returns : goal.returns
returns c = cloned c.self.inside.layers.entries c.in_ok-layers.layers.entries c.in_ok-layers.ensures.cases ∙ c.self.view_is
