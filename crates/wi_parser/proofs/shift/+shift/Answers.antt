use Rattle.wi_parser.proofs.Words.{List, map, refl, ap, ap₂, sym, ◌∙◌, arith, rules, w64, common_steps, SFits, to_z-of_z, take_all, IfOk-from_err, Expr, Reference, trees_of, tree_of, moved, map_references}
use Rattle.wi_parser.proofs.ExprTrees.{binary_of_parts}
use Rattle.wi_parser.proofs.Shifts.{mapped, number_moved, text_moved, cell_moved, rectangle_moved, part_moved, parenthesized_moved, signed_moved, percent_moved, binary_moved, what_if_moved, call_moved}
use Rattle.wi_parser.proofs.shift.+shift.Goals as goal

pub each_shifted-returns : goal.each_shifted-returns
each_shifted-returns t c =
    let l = c.loop-expr in
    let r : SFits w64 c.args.rows = search rules in
    let q : SFits w64 c.args.columns = search rules in
    let kept = simp to_z-of_z at l.invariant in
    let f = map_references (moved c.args.rows c.args.columns) in
    let whole = take_all l.expr-index c.args.exprs.now (omega arith) in
    ap trees_of (kept ∙ ap (λ (es : List Expr). map f (map tree_of es)) whole) ∙ sym (mapped (moved c.args.rows c.args.columns) (map tree_of c.args.exprs.now))

pub each_shifted-loop-expr-preserved : goal.each_shifted-loop-expr-preserved
each_shifted-loop-expr-preserved t c = grind (arith, common_steps)

pub boxed-returns-in_err-shifted : goal.boxed-returns-in_err-shifted
boxed-returns-in_err-shifted t c = IfOk-from_err _ _ c.from_residual.ensures.0

pub boxed-returns-in_err-new : goal.boxed-returns-in_err-new
boxed-returns-in_err-new t c = IfOk-from_err _ _ c.from_residual-in_err-new.ensures.0

pub each_shifted-returns-in_err-shifted : goal.each_shifted-returns-in_err-shifted
each_shifted-returns-in_err-shifted t c = IfOk-from_err _ _ c.from_residual.ensures.0

pub each_shifted-returns-in_err-push : goal.each_shifted-returns-in_err-push
each_shifted-returns-in_err-push t c = IfOk-from_err _ _ c.from_residual-in_err-push.ensures.0

pub shifted-returns-in_err-boxed-in-Parenthesized : goal.shifted-returns-in_err-boxed-in-Parenthesized
shifted-returns-in_err-boxed-in-Parenthesized t c = IfOk-from_err _ _ c.from_residual.ensures.0

pub shifted-returns-in_err-boxed-in-Signed : goal.shifted-returns-in_err-boxed-in-Signed
shifted-returns-in_err-boxed-in-Signed t c = IfOk-from_err _ _ c.from_residual-in_err-boxed-in-Signed.ensures.0

pub shifted-returns-in_err-boxed-in-Percent : goal.shifted-returns-in_err-boxed-in-Percent
shifted-returns-in_err-boxed-in-Percent t c = IfOk-from_err _ _ c.from_residual-in_err-boxed-in-Percent.ensures.0

pub binary_shifted-returns-in_err-left : goal.binary_shifted-returns-in_err-left
binary_shifted-returns-in_err-left t c = IfOk-from_err _ _ c.from_residual.ensures.0

pub binary_shifted-returns-in_err-right : goal.binary_shifted-returns-in_err-right
binary_shifted-returns-in_err-right t c = IfOk-from_err _ _ c.from_residual-in_err-right.ensures.0

pub shifted-returns-in_err-each_shifted-in-Call : goal.shifted-returns-in_err-each_shifted-in-Call
shifted-returns-in_err-each_shifted-in-Call t c = IfOk-from_err _ _ c.from_residual-in_err-each_shifted-in-Call.ensures.0

pub boxed-returns : goal.boxed-returns
boxed-returns t c =
    let same = ap₂ moved (to_z-of_z w64 c.args.rows c.ranges.rows) (to_z-of_z w64 c.args.columns c.ranges.columns) in
    ap tree_of c.in_ok-new.ensures.ok ∙ part_moved _ _ _ _ _ same refl c.in_ok-shifted.ensures

pub shifted-returns-in-Number : goal.shifted-returns-in-Number
shifted-returns-in-Number t c = number_moved _ _ _ c.in-Number.is

pub shifted-returns-in-Text : goal.shifted-returns-in-Text
shifted-returns-in-Text t c = text_moved _ _ _ _ c.in-Text.is c.text.ensures

pub shifted-returns-in-Cell : goal.shifted-returns-in-Cell
shifted-returns-in-Cell t c =
    let same = ap₂ moved (to_z-of_z w64 c.args.rows c.ranges.rows) (to_z-of_z w64 c.args.columns c.ranges.columns) in
    cell_moved _ _ _ _ c.in-Cell.is (c.moved.ensures ∙ ap (λ (g : Reference → Reference). g c.in-Cell.r) same)

pub shifted-returns-in-Rectangle : goal.shifted-returns-in-Rectangle
shifted-returns-in-Rectangle t c =
    let same = ap₂ moved (to_z-of_z w64 c.args.rows c.ranges.rows) (to_z-of_z w64 c.args.columns c.ranges.columns) in
    rectangle_moved _ _ _ _ _ c.in-Rectangle.is (c.moved-in-Rectangle.ensures ∙ ap (λ (g : Reference → Reference). g c.in-Rectangle.corners.one) same)
    (c.moved-in-Rectangle-2.ensures ∙ ap (λ (g : Reference → Reference). g c.in-Rectangle.corners.other) same)

pub shifted-returns-in_ok-boxed-in-Parenthesized : goal.shifted-returns-in_ok-boxed-in-Parenthesized
shifted-returns-in_ok-boxed-in-Parenthesized t c =
    let same = ap₂ moved (to_z-of_z w64 c.args.rows c.ranges.rows) (to_z-of_z w64 c.args.columns c.ranges.columns) in
    parenthesized_moved _ _ _ _ c.in-Parenthesized.is (part_moved _ _ _ _ _ same c.deref.ensures c.in_ok-boxed-in-Parenthesized.ensures)

pub shifted-returns-in_ok-boxed-in-Signed : goal.shifted-returns-in_ok-boxed-in-Signed
shifted-returns-in_ok-boxed-in-Signed t c =
    let same = ap₂ moved (to_z-of_z w64 c.args.rows c.ranges.rows) (to_z-of_z w64 c.args.columns c.ranges.columns) in
    signed_moved _ _ _ _ _ c.in-Signed.is (part_moved _ _ _ _ _ same c.deref-in-Signed.ensures c.in_ok-boxed-in-Signed.ensures)

pub shifted-returns-in_ok-boxed-in-Percent : goal.shifted-returns-in_ok-boxed-in-Percent
shifted-returns-in_ok-boxed-in-Percent t c =
    let same = ap₂ moved (to_z-of_z w64 c.args.rows c.ranges.rows) (to_z-of_z w64 c.args.columns c.ranges.columns) in
    percent_moved _ _ _ _ c.in-Percent.is (part_moved _ _ _ _ _ same c.deref-in-Percent.ensures c.in_ok-boxed-in-Percent.ensures)

pub shifted-returns-in-Binary : goal.shifted-returns-in-Binary
shifted-returns-in-Binary t c =
    let same = ap₂ moved (to_z-of_z w64 c.args.rows c.ranges.rows) (to_z-of_z w64 c.args.columns c.ranges.columns) in
    binary_moved _ _ _ _ _ _ _ _ c.in-Binary.is c.deref-in-Binary.ensures c.deref-in-Binary-2.ensures same c.binary_shifted.ensures

pub binary_shifted-returns : goal.binary_shifted-returns
binary_shifted-returns t c =
    let same = ap₂ moved (to_z-of_z w64 c.args.rows c.ranges.rows) (to_z-of_z w64 c.args.columns c.ranges.columns) in
    binary_of_parts _ _ _ _ _ _ (part_moved _ _ _ _ _ same refl c.in_ok-left.ensures) (part_moved _ _ _ _ _ same refl c.in_ok-right.ensures) c.binary.ensures

pub shifted-returns-in-WhatIf : goal.shifted-returns-in-WhatIf
shifted-returns-in-WhatIf t c =
    let same = ap₂ moved (to_z-of_z w64 c.args.rows c.ranges.rows) (to_z-of_z w64 c.args.columns c.ranges.columns) in
    what_if_moved _ _ _ _ _ _ _ _ c.in-WhatIf.is c.deref-in-WhatIf.ensures c.deref-in-WhatIf-2.ensures c.deref-in-WhatIf-3.ensures.value same c.what_if.ensures

pub shifted-returns-in_ok-each_shifted-in-Call : goal.shifted-returns-in_ok-each_shifted-in-Call
shifted-returns-in_ok-each_shifted-in-Call t c =
    let same = ap₂ moved (to_z-of_z w64 c.args.rows c.ranges.rows) (to_z-of_z w64 c.args.columns c.ranges.columns) in
    call_moved _ _ _ _ _ _ _ _ _ c.in-Call.is c.deref-in-Call.ensures c.deref-in-Call-2.ensures c.deref-in-Call-3.ensures.value same c.in_ok-each_shifted-in-Call.ensures c.call.ensures
