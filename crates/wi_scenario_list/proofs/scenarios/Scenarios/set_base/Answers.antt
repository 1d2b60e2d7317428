use Rattle.wi_scenario_list.proofs.Words.{◌≡◌, Option, ap, ◌∙◌, rules, option_copied, on_ok_weaker, Scenario, with_scenario, scenario_or_new, based_on, with_name}
use Rattle.wi_scenario_list.proofs.Stored.{not_found, found_there}
use Rattle.wi_scenario_list.proofs.scenarios.Scenarios.set_base.Goals as goal

pub returns-in_default-clause-ok : goal.returns-in_default-clause-ok
returns-in_default-clause-ok c = λ t. absurd (not_found c.args.name.now c.args.self.now (search rules) t)

pub returns-clause-ok : goal.returns-clause-ok
returns-clause-ok c =
    let made : with_name c.args.name.now c.in_ok-layer.layer ≡ based_on (with_name c.args.name.now c.in-Some.layer.now) (option_copied c.args.other) =
    λ i. record { name = c.args.name.now; own = c.in_ok-layer.ensures.own i; base = c.in_ok-layer.ensures.base i } in
    let found = ap (λ (o : Option Scenario). based_on (scenario_or_new c.args.name.now o) (option_copied c.args.other)) c.in-Some.ensures in
    λ t. on_ok_weaker c.set.result (λ h. h ∙ ap (λ (x : Scenario). with_scenario c.args.self.now x) (made ∙ found)) c.set.ensures.ok

pub returns-clause-err : goal.returns-clause-err
returns-clause-err c = c.set.ensures.err

pub returns-clause-absent : goal.returns-clause-absent
returns-clause-absent c = λ t. absurd (found_there c.args.name.now c.args.self.now (with_name c.args.name.now c.in-Some.layer.now) (search rules) t)
