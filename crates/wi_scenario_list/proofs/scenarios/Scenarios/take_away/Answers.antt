use Rattle.wi_scenario_list.proofs.Words.{◌≡◌, Option, ap, ◌∙◌, rules, on_ok_weaker, Scenario, with_scenario, without_own, scenario_or_new, without_replacement, with_name, own_of, base_of}
use Rattle.wi_scenario_list.proofs.Stored.{not_found, found_there}
use Rattle.wi_scenario_list.proofs.scenarios.Scenarios.take_away.Goals as goal

pub returns-in_default-clause-ok : goal.returns-in_default-clause-ok
returns-in_default-clause-ok c = λ t. absurd (not_found c.args.name.now c.args.self.now (search rules) t)

pub returns-clause-ok : goal.returns-clause-ok
returns-clause-ok c =
    let own : own_of c.in_ok-layer.layer ≡ without_replacement (own_of c.in-Some.layer.now) c.args.at = search (c.in_ok-layer.ensures) in
    let base : base_of c.in_ok-layer.layer ≡ base_of c.in-Some.layer.now = search (c.in_ok-layer.ensures) in
    let made : with_name c.args.name.now c.in_ok-layer.layer ≡ without_own (with_name c.args.name.now c.in-Some.layer.now) c.args.at =
    λ i. record { name = c.args.name.now; own = own i; base = base i } in
    let found = ap (λ (o : Option Scenario). without_own (scenario_or_new c.args.name.now o) c.args.at) c.in-Some.ensures in
    λ t. on_ok_weaker c.set.result (λ h. h ∙ ap (λ (x : Scenario). with_scenario c.args.self.now x) (made ∙ found)) c.set.ensures.ok

pub returns-clause-err : goal.returns-clause-err
returns-clause-err c = c.set.ensures.err

pub returns-clause-absent : goal.returns-clause-absent
returns-clause-absent c = λ t. absurd (found_there c.args.name.now c.args.self.now (with_name c.args.name.now c.in-Some.layer.now) (search rules) t)
