use Rattle.std.proofs.lemmas.Grind.{common_steps}
use Rattle.wi_functions.proofs.Words.{◌≡◌, ◌∙◌, List, ℕ, ap, arith, length, refl, rules, sym, call_value}
use Rattle.wi_functions.proofs.LazyAlone.{as_many, lazy_called, values_called}
use Rattle.wi_functions.proofs.PlacedValues.{constant_value, lazy_seen, values_seen}
use Rattle.wi_functions.proofs.placed.placed_call.Goals as goal

pub returns-in-Err : goal.returns-in-Err
returns-in-Err c = λ vs args same.
    let many : c.len.result ≡ length c.args.parameters.items = grind (arith, common_steps) in
    constant_value _ vs
    ∙ sym (c.in-Err.ensures.refused args (as_many c.args.parameters.items args vs c.len.result many same))
    ∙ ap (λ (n : List ℕ). call_value n args) c.as_str.ensures

pub returns-in-Ok-Lazy : goal.returns-in-Ok-Lazy
returns-in-Ok-Lazy c = λ vs args same.
    let many : c.len.result ≡ length c.args.parameters.items = grind (arith, common_steps) in
    lazy_seen _ c.in-Ok-Lazy.function _ c.args.parameters.items vs refl (search rules)
    ∙ lazy_called c.args.parameters.items args vs _ _ c.len.result _ _ many same c.as_str.ensures c.in-Ok-Lazy.ensures.found c.in-Ok-Lazy.field-0-is c.in-Ok-Lazy.function refl

pub returns-in-Ok-Values : goal.returns-in-Ok-Values
returns-in-Ok-Values c = λ vs args same.
    let many : c.len.result ≡ length c.args.parameters.items = grind (arith, common_steps) in
    values_seen _ c.in-Ok-Values.function _ c.args.parameters.items vs refl (search rules)
    ∙ values_called c.args.parameters.items args vs _ _ c.len.result _ _ many same c.as_str.ensures c.in-Ok-Values.ensures.found c.in-Ok-Values.field-0-is c.in-Ok-Values.function refl
