use Rattle.wi_scenario_list.proofs.Words.{option_copied, IfOk-weaker}
use Rattle.wi_scenario_list.proofs.Chains.{effective_listed}
use Rattle.wi_scenario_list.proofs.scenarios.Scenarios.effective.Goals as goal

pub returns-clause-value : goal.returns-clause-value
returns-clause-value c =
    IfOk-weaker c.listed.result _ _
    (λ rs e. effective_listed c.args.self.now (option_copied c.args.name) c.in_ok-all.all.entries rs.items c.in_ok-all.ensures e)
    c.listed.ensures.value
