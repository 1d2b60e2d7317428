use Rattle.wi_value_functions.proofs.Words.{rules, FitsSigned, ◌∙◌, ap, sym, subst, to_z-of_z, w128, Ok, Gives}
use Rattle.wi_value_functions.proofs.Taking.{left_is}
use Rattle.wi_value_functions.proofs.text.parts.left.Goals as goal

pub returns : goal.returns
returns c =
    let fits0 : FitsSigned w128 c.in_ok-to_whole.field-0 = search rules in
    let bound0 = simp to_z-of_z at c.in_ok-number.ensures in
    subst (Gives c.limited_copy.result)
    (left_is c.args.text.now c.args.number.now c.as_str.result.now c.before-2.result.now c.in_ok-to_whole.field-0 c.in_ok-number.number
    (c.in_ok-shown.ensures ∙ ap Ok (sym c.as_str.ensures)) c.in_ok-to_whole.ensures bound0 c.before-2.utf8 c.before-2.ensures)
    c.limited_copy.ensures
