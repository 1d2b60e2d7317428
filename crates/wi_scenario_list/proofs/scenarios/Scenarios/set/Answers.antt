use Rattle.wi_scenario_list.proofs.Words.{◌∙◌, on_ok_weaker, with_scenario, with_name}
use Rattle.wi_scenario_list.proofs.scenarios.Scenarios.set.Goals as goal

pub returns-clause-ok : goal.returns-clause-ok
returns-clause-ok c =
    on_ok_weaker c.insert.result (λ e. e ∙ (λ i. with_scenario (c.self.view_is i) (with_name (c.in_ok-name.ensures.ok i) c.args.layer))) c.insert.ensures.ok
