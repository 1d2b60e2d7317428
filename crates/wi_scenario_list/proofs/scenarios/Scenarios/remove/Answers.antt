use Rattle.wi_scenario_list.proofs.Words.{rules}
use Rattle.wi_scenario_list.proofs.Stored.{removed}
use Rattle.wi_scenario_list.proofs.scenarios.Scenarios.remove.Goals as goal

pub returns : goal.returns
returns c = search (rules, removed)
