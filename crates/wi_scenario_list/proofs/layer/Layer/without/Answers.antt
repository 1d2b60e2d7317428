use Rattle.wi_scenario_list.proofs.Words.{◌∙◌, ℕ, List, BTreeMap, sym, ap, Value, nat_cmp, lookup, is_at, IfOk-weaker, as_replacements, without_replacement}
use Rattle.wi_scenario_list.proofs.Own.{without_one}
use Rattle.wi_scenario_list.proofs.layer.Layer.without.Goals as goal

pub returns-clause-own : goal.returns-clause-own
returns-clause-own c =
    let copied = c.in_ok-own.ensures ∙ ap (λ (m : BTreeMap ℕ Value). m.entries) c.deref.ensures in
    let gone = sym (ap (λ (es : List (ℕ × Value)). lookup (is_at (nat_cmp c.args.at)) es) c.remove.ensures.entries) ∙ c.remove.ensures.updates.1 in
    IfOk-weaker c.with_own.result _ _
    (λ l e.
    ap (λ (m : BTreeMap ℕ Value). as_replacements m.entries) e
    ∙ ap (λ (es : List (ℕ × Value)). as_replacements es) c.remove.ensures.entries
    ∙ without_one c.in_ok-own.own.entries c.args.at gone
    ∙ ap (λ (es : List (ℕ × Value)). without_replacement (as_replacements es) c.args.at) copied)
    c.with_own.ensures.own
