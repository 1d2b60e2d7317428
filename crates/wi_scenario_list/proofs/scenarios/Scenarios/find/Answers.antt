use Rattle.wi_scenario_list.proofs.Words.{◌∙◌, List, ap, find, option_map, Scenario, is_named, with_name}
use Rattle.wi_scenario_list.proofs.Stored.{behind, found-scenario}
use Rattle.wi_scenario_list.proofs.scenarios.Scenarios.find.Goals as goal

pub returns : goal.returns
returns c =
    behind (with_name c.args.name.now) c.get.result ∙ ap (option_map (with_name c.args.name.now)) c.get.ensures.value
    ∙ found-scenario c.args.name.now c.self.inside.layers.entries
    ∙ ap (λ (xs : List Scenario). find (is_named c.args.name.now) xs) c.self.view_is
