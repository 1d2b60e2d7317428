use Rattle.wi_value_functions.proofs.Words.{rules, FitsSigned, ◌∙◌, ap, sym, subst, ◌-◌, drop, chars, to_z-of_z, w128, Ok, Gives}
use Rattle.wi_value_functions.proofs.Taking.{right_is}
use Rattle.wi_value_functions.proofs.text.parts.right.Goals as goal

pub returns : goal.returns
returns c =
    let fits0 : FitsSigned w128 c.in_ok-to_whole.field-0 = search rules in
    let bound0 = simp to_z-of_z at c.in_ok-number.ensures in
    let same = c.as_str-2.ensures ∙ sym c.as_str.ensures in
    let s = c.as_str.result.now in
    subst (Gives c.limited_copy.result)
    (right_is c.args.text.now c.args.number.now s c.after.result.now c.in_ok-to_whole.field-0 c.in_ok-number.number
    (c.in_ok-shown.ensures ∙ ap Ok (sym c.as_str.ensures)) c.in_ok-to_whole.ensures bound0 c.after.utf8
    (c.after.ensures.back ∙ ap (λ x. drop c.saturating_sub-others.result (chars x)) same
    ∙ ap (λ k. drop k (chars s)) (c.saturating_sub-others.ensures ∙ ap (λ k. k - c.in_ok-number.number) c.count.ensures)))
    c.limited_copy.ensures
