use Rattle.wi_scenario_list.proofs.Words.{◌∙◌, ℕ, List, BTreeMap, ap, Value, nat_cmp, insert_entry, IfOk-weaker, as_replacements}
use Rattle.wi_scenario_list.proofs.Own.{with_one}
use Rattle.wi_scenario_list.proofs.layer.Layer.with.Goals as goal

pub returns-clause-own : goal.returns-clause-own
returns-clause-own c =
    let copied = c.in_ok-own.ensures ∙ ap (λ (m : BTreeMap ℕ Value). m.entries) c.deref.ensures in
    IfOk-weaker c.with_own.result _ _
    (λ l e.
    ap (λ (m : BTreeMap ℕ Value). as_replacements m.entries) e
    ∙ ap (λ (es : List (ℕ × Value)). as_replacements es)
    (c.in_ok-insert.ensures.entries ∙ ap (λ (es : List (ℕ × Value)). insert_entry nat_cmp es c.args.at c.args.value) copied)
    ∙ with_one c.args.self.now.own.value.entries c.args.at c.args.value)
    c.with_own.ensures.own
