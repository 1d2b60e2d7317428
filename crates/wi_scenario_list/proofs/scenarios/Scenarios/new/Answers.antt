use Rattle.wi_scenario_list.proofs.Stored.{none_stored}
use Rattle.wi_scenario_list.proofs.scenarios.Scenarios.new.Goals as goal

pub returns : goal.returns
returns c = none_stored _ (search)
