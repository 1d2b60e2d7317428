use Rattle.wi_value_functions.proofs.Words.{rules, FitsSigned, ◌∙◌, ap, sym, subst, to_z-of_z, w128, Ok, Gives}
use Rattle.wi_value_functions.proofs.Taking.{mid_is}
use Rattle.wi_value_functions.proofs.text.parts.mid.Goals as goal

pub returns : goal.returns
returns c =
    let fits0 : FitsSigned w128 c.in_ok-start.start = search rules in
    let fits1 : FitsSigned w128 c.in_ok-number.number = search rules in
    let bound0 = simp to_z-of_z at c.in_ok-start-2.ensures in
    let bound1 = simp to_z-of_z at c.in_ok-number-2.ensures in
    subst (Gives c.limited_copy.result)
    (mid_is c.args.text.now c.args.start.now c.args.number.now c.as_str.result.now c.after.result.now c.before-2.result.now
    c.in_ok-start.start c.in_ok-number.number c.in_ok-start-2.start c.in_ok-number-2.number
    (c.in_ok-shown.ensures ∙ ap Ok (sym c.as_str.ensures)) c.in_ok-start.ensures c.in_ok-number.ensures bound0 bound1
    c.before-2.utf8 c.after.ensures.back c.before-2.ensures)
    c.limited_copy.ensures
