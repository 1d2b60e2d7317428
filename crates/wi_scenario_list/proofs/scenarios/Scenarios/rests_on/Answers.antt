use Rattle.wi_scenario_list.proofs.Words.{rules, chain}
use Rattle.wi_scenario_list.proofs.scenarios.Scenarios.rests_on.Goals as goal

pub returns : goal.returns
unfolding chain
returns c = search rules
