use Rattle.wi_scenario_list.proofs.Words.{rules}
use Rattle.wi_scenario_list.proofs.Stored.{any_based}
use Rattle.wi_scenario_list.proofs.scenarios.Scenarios.is_base.Goals as goal

pub returns : goal.returns
returns c = any_based c.args.name.now c.self.inside.layers.entries c.args.self.now c.any_based_on.result (search rules) c.self.view_is
