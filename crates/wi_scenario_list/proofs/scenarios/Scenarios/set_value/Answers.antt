use Rattle.wi_scenario_list.proofs.Words.{rules}
use Rattle.wi_scenario_list.proofs.scenarios.Scenarios.set_value.Goals as goal

pub returns-clause-ok : goal.returns-clause-ok
returns-clause-ok c = search rules
