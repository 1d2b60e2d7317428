use Rattle.wi_scenario_list.proofs.Words.{rules}
use Rattle.wi_scenario_list.proofs.layer.Layer.is_based_on.Goals as goal

pub returns-in-Some : goal.returns-in-Some
returns-in-Some c = search rules
