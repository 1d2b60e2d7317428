use Rattle.wi_scenario_list.proofs.Words.{◌∙◌, List, rules, length, sym, ap, length-map, Scenario, scenario_in, with_name}
use Rattle.wi_scenario_list.proofs.Stored.{full_where_there, full_where_none}
use Rattle.wi_scenario_list.proofs.scenarios.Scenarios.is_full.Goals as goal

pub returns-in-Some : goal.returns-in-Some
returns-in-Some c = full_where_there c.args.self.now c.args.name.now c.args.at (with_name c.args.name.now c.in-Some.layer.now) c.is_full.result (search rules) (search rules)

pub returns-in-None : goal.returns-in-None
returns-in-None c =
    full_where_none c.args.self.now c.args.name.now c.args.at c.len.result _ (search rules) (search rules)
    (c.len.ensures.len ∙ sym (length-map c.self.inside.layers.entries scenario_in) ∙ ap (λ (xs : List Scenario). length xs) c.self.view_is)
