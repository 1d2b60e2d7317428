use Rattle.wi_scenario_list.proofs.Words.{◌∙◌, ℕ, List, ap, Value, overridden, as_replacements}
use Rattle.wi_scenario_list.proofs.Own.{put_into_nothing}
use Rattle.wi_scenario_list.proofs.entries.copied.Goals as goal

pub returns : goal.returns
returns c =
    c.in_ok-merge.ensures.put ∙ ap (λ (es : List (ℕ × Value)). overridden es (as_replacements c.args.map.now.entries)) c.new-copy.ensures.empty
    ∙ put_into_nothing c.args.map.now.entries c.in_ok-merge.ensures.order
