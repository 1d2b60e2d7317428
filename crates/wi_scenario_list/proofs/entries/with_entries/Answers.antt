use Rattle.wi_scenario_list.proofs.Words.{rules}
use Rattle.wi_scenario_list.proofs.entries.with_entries.Goals as goal

pub returns : goal.returns
returns c = search rules
