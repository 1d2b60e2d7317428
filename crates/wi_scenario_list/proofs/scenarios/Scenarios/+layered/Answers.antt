use Rattle.wi_scenario_list.proofs.Words.{◌∙◌, ◌-◌, ℕ, List, Option, BTreeMap, ap, rules, Value, option_copied, IfOk-weaker, as_map, overridden, layered, scenario_of, chain_within, as_replacements, with_name}
use Rattle.wi_scenario_list.proofs.Chains.{layered_more}
use Rattle.wi_scenario_list.proofs.scenarios.Scenarios.+layered.Goals as goal

pub returns-in_ok-below-in-Some-find : goal.returns-in_ok-below-in-Some-find
returns-in_ok-below-in-Some-find t c =
    let es = c.in_ok-below-in-Some-find.below.entries in
    let below =
    c.in_ok-below-in-Some-find.ensures
    ∙ ap (λ (o : Option (List ℕ)). as_map (layered (chain_within (c.args.bound - 1) c.args.self.now (scenario_of c.args.self.now o)))) c.base_name.ensures in
    IfOk-weaker c.with_entries.result _ _
    (λ m e.
    layered_more c.args.bound c.args.self.now (scenario_of c.args.self.now (option_copied c.args.name))
    (with_name c.in-Some.name.now c.in-Some-find.layer.now) es m.entries (search rules) (search rules) below
    (e ∙ ap (λ (w : BTreeMap ℕ Value). overridden es (as_replacements w.entries)) c.deref.ensures))
    c.with_entries.ensures
