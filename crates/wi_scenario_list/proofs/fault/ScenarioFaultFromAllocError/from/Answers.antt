use Rattle.wi_scenario_list.proofs.Words.{rules}
use Rattle.wi_scenario_list.proofs.fault.ScenarioFaultFromAllocError.from.Goals as goal

pub returns : goal.returns
returns c = search rules
