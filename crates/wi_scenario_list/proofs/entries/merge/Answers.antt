use Rattle.wi_scenario_list.proofs.Words.{List, ℕ, sym, ap, ◌∙◌, nat_cmp, insert_entry, Value, overridden, as_replacements}
use Rattle.wi_scenario_list.proofs.Own.{order_of_entries}
use Rattle.wi_scenario_list.proofs.entries.merge.Goals as goal

pub returns-clause-order : goal.returns-clause-order
returns-clause-order c = order_of_entries c.args.others.now.entries c.into_iter-at-iterator.ensures.into_iter_gives.5

pub loop-at-preserved : goal.loop-at-preserved
loop-at-preserved c =
    ap (λ (es : List (ℕ × Value)). overridden es (as_replacements c.next.new.self))
    (c.in_ok-insert.ensures.entries ∙ ap (λ (v : Value). insert_entry nat_cmp c.loop-at.map.entries c.in-Some.at.now v) c.in_ok-value.ensures)
    ∙ ap (λ (es : List (ℕ × Value)). overridden c.loop-at.map.entries (as_replacements es)) (sym c.in-Some.ensures.steps) ∙ c.loop-at.invariant

pub returns-clause-put : goal.returns-clause-put
returns-clause-put c = ap (λ (es : List (ℕ × Value)). overridden c.loop-at.map.entries (as_replacements es)) (sym c.in-None.ensures.steps.0) ∙ c.loop-at.invariant

pub loop-at-init : goal.loop-at-init
loop-at-init c = ap (λ (es : List (ℕ × Value)). overridden c.args.map.now.entries (as_replacements es)) c.into_iter-at-iterator.ensures.into_iter_gives.0
