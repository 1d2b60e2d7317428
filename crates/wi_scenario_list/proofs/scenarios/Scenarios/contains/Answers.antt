use Rattle.wi_scenario_list.proofs.Words.{rules}
use Rattle.wi_scenario_list.proofs.Stored.{found-has}
use Rattle.wi_scenario_list.proofs.scenarios.Scenarios.contains.Goals as goal

pub returns : goal.returns
returns c = found-has c.args.name.now c.self.inside.layers.entries c.args.self.now c.contains_key.result (search rules) c.self.view_is
