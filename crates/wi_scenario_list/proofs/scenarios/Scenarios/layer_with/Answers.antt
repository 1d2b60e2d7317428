use Rattle.wi_scenario_list.proofs.Words.{rules}
use Rattle.wi_scenario_list.proofs.scenarios.Scenarios.layer_with.Goals as goal

pub returns : goal.returns
returns c = search rules
