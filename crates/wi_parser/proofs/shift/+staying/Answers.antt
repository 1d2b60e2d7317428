use Rattle.wi_parser.proofs.Words.{arith, Bool, map, [], ◌∷◌, refl, ap, ap₂, ◌∙◌, w64, common_steps, list_all, flat_map, to_z-of_z, Reference, leaves, all_leaves, stays, leaf_references, all_references, tree_of, all_of, pair_of}
use Rattle.wi_parser.proofs.ExprTrees.{parenthesized_leaves, signed_leaves, percent_leaves, binary_leaves, what_if_leaves, call_leaves}
use Rattle.wi_parser.proofs.Shifts.{both_pass, first_holds, first_fails, number_passes, text_passes, cell_passes, rectangle_passes, same_pass, what_if_passes}
use Rattle.wi_parser.proofs.shift.+staying.Goals as goal

pub each_stays-returns-then-not-all_stay : goal.each_stays-returns-then-not-all_stay
each_stays-returns-then-not-all_stay t c = grind (arith, common_steps)

pub each_stays-loop-expr-preserved : goal.each_stays-loop-expr-preserved
each_stays-loop-expr-preserved t c = grind (arith, common_steps)

pub all_stay-returns-in-Number : goal.all_stay-returns-in-Number
all_stay-returns-in-Number t c = number_passes _ _ _ c.in-Number.is

pub all_stay-returns-in-Text : goal.all_stay-returns-in-Text
all_stay-returns-in-Text t c = text_passes _ _ _ c.in-Text.is

pub all_stay-returns-in-Cell : goal.all_stay-returns-in-Cell
all_stay-returns-in-Cell t c =
    let same = ap₂ stays (to_z-of_z w64 c.args.rows c.ranges.rows) (to_z-of_z w64 c.args.columns c.ranges.columns) in
    (c.stays.ensures ∙ ap (λ (q : Reference → Bool). q c.in-Cell.r) same) ∙ cell_passes (stays c.args.rows c.args.columns) _ _ c.in-Cell.is

pub all_stay-returns-then-stays : goal.all_stay-returns-then-stays
all_stay-returns-then-stays t c =
    let same = ap₂ stays (to_z-of_z w64 c.args.rows c.ranges.rows) (to_z-of_z w64 c.args.columns c.ranges.columns) in
    first_holds _ _ _ _ (c.stays-in-Rectangle.ensures ∙ ap (λ (q : Reference → Bool). q c.in-Rectangle.corners.one) same) c.if-stays.true
    (c.stays-then-stays.ensures ∙ ap (λ (q : Reference → Bool). q c.in-Rectangle.corners.other) same)
    ∙ rectangle_passes (stays c.args.rows c.args.columns) _ _ c.in-Rectangle.is

pub all_stay-returns-else-stays : goal.all_stay-returns-else-stays
all_stay-returns-else-stays t c =
    let same = ap₂ stays (to_z-of_z w64 c.args.rows c.ranges.rows) (to_z-of_z w64 c.args.columns c.ranges.columns) in
    first_fails _ _ _ (c.stays-in-Rectangle.ensures ∙ ap (λ (q : Reference → Bool). q c.in-Rectangle.corners.one) same) c.if-stays.false ∙ rectangle_passes (stays c.args.rows c.args.columns) _ _ c.in-Rectangle.is

pub all_stay-returns-in-Parenthesized : goal.all_stay-returns-in-Parenthesized
all_stay-returns-in-Parenthesized t c =
    let same = ap₂ stays (to_z-of_z w64 c.args.rows c.ranges.rows) (to_z-of_z w64 c.args.columns c.ranges.columns) in
    (c.all_stay.ensures ∙ ap (λ (q : Reference → Bool). all_references q (tree_of c.deref.result.now)) same) ∙ same_pass (stays c.args.rows c.args.columns) _ _ (parenthesized_leaves _ _ _ c.in-Parenthesized.is c.deref.ensures)

pub all_stay-returns-in-Signed : goal.all_stay-returns-in-Signed
all_stay-returns-in-Signed t c =
    let same = ap₂ stays (to_z-of_z w64 c.args.rows c.ranges.rows) (to_z-of_z w64 c.args.columns c.ranges.columns) in
    (c.all_stay-in-Signed.ensures ∙ ap (λ (q : Reference → Bool). all_references q (tree_of c.deref-in-Signed.result.now)) same) ∙ same_pass (stays c.args.rows c.args.columns) _ _
    (signed_leaves _ _ _ _ c.in-Signed.is c.deref-in-Signed.ensures)

pub all_stay-returns-in-Percent : goal.all_stay-returns-in-Percent
all_stay-returns-in-Percent t c =
    let same = ap₂ stays (to_z-of_z w64 c.args.rows c.ranges.rows) (to_z-of_z w64 c.args.columns c.ranges.columns) in
    (c.all_stay-in-Percent.ensures ∙ ap (λ (q : Reference → Bool). all_references q (tree_of c.deref-in-Percent.result.now)) same) ∙ same_pass (stays c.args.rows c.args.columns) _ _
    (percent_leaves _ _ _ c.in-Percent.is c.deref-in-Percent.ensures)

pub all_stay-returns-then-all_stay : goal.all_stay-returns-then-all_stay
all_stay-returns-then-all_stay t c =
    let same = ap₂ stays (to_z-of_z w64 c.args.rows c.ranges.rows) (to_z-of_z w64 c.args.columns c.ranges.columns) in
    let p = stays c.args.rows c.args.columns in
    first_holds _ _ _ _ (c.all_stay-in-Binary.ensures ∙ ap (λ (q : Reference → Bool). all_references q (tree_of c.deref-in-Binary.result.now.0)) same)
    c.if-all_stay.true
    (c.all_stay-then-all_stay.ensures ∙ ap (λ (q : Reference → Bool). all_references q (tree_of c.deref-then-all_stay.result.now.1)) same)
    ∙ both_pass p (leaves (tree_of c.deref-in-Binary.result.now.0)) (leaves (tree_of c.deref-then-all_stay.result.now.1))
    ∙ same_pass p _ _ (binary_leaves _ _ _ _ _ c.in-Binary.is c.deref-in-Binary.ensures c.deref-then-all_stay.ensures)

pub all_stay-returns-else-all_stay : goal.all_stay-returns-else-all_stay
all_stay-returns-else-all_stay t c =
    let same = ap₂ stays (to_z-of_z w64 c.args.rows c.ranges.rows) (to_z-of_z w64 c.args.columns c.ranges.columns) in
    let p = stays c.args.rows c.args.columns in
    first_fails _ _ _ (c.all_stay-in-Binary.ensures ∙ ap (λ (q : Reference → Bool). all_references q (tree_of c.deref-in-Binary.result.now.0)) same) c.if-all_stay.false
    ∙ both_pass p (leaves (tree_of c.deref-in-Binary.result.now.0)) (leaves (tree_of c.in-Binary.operands.value.1))
    ∙ same_pass p _ _ (binary_leaves _ _ _ _ _ c.in-Binary.is c.deref-in-Binary.ensures refl)

pub all_stay-returns-then-stays-2 : goal.all_stay-returns-then-stays-2
all_stay-returns-then-stays-2 t c =
    let same = ap₂ stays (to_z-of_z w64 c.args.rows c.ranges.rows) (to_z-of_z w64 c.args.columns c.ranges.columns) in
    first_holds _ _ _ _ (c.stays-in-WhatIf.ensures ∙ ap (λ (q : Reference → Bool). q c.deref-in-WhatIf.result.now.formula_cell) same) c.if-stays-2.true
    (c.pairs_stay.ensures ∙ ap (λ (q : Reference → Bool). list_all q (flat_map (λ (x : Reference × Reference). x.0 ∷ x.1 ∷ []) (map pair_of c.deref-then-stays-2-2.result.now))) same)
    ∙ what_if_passes (stays c.args.rows c.args.columns) _ _ _
    (what_if_leaves _ _ _ _ _ c.in-WhatIf.is c.deref-in-WhatIf.ensures c.deref-then-stays-2.ensures c.deref-then-stays-2-2.ensures.value)

pub all_stay-returns-else-stays-2 : goal.all_stay-returns-else-stays-2
all_stay-returns-else-stays-2 t c =
    let same = ap₂ stays (to_z-of_z w64 c.args.rows c.ranges.rows) (to_z-of_z w64 c.args.columns c.ranges.columns) in
    let w = c.in-WhatIf.w.value in
    first_fails _ _ _ (c.stays-in-WhatIf.ensures ∙ ap (λ (q : Reference → Bool). q c.deref-in-WhatIf.result.now.formula_cell) same) c.if-stays-2.false
    ∙ what_if_passes (stays c.args.rows c.args.columns) _ _ _ (what_if_leaves _ _ _ w w.pairs.items c.in-WhatIf.is c.deref-in-WhatIf.ensures refl refl)

pub all_stay-returns-in-Call : goal.all_stay-returns-in-Call
all_stay-returns-in-Call t c =
    let same = ap₂ stays (to_z-of_z w64 c.args.rows c.ranges.rows) (to_z-of_z w64 c.args.columns c.ranges.columns) in
    c.each_stays.ensures ∙ ap (λ (q : Reference → Bool). list_all q (flat_map leaf_references (all_leaves (all_of c.deref-in-Call-2.result.now)))) same
    ∙ same_pass (stays c.args.rows c.args.columns) _ _ (call_leaves _ _ _ _ c.in-Call.is c.deref-in-Call.ensures c.deref-in-Call-2.ensures.value)

pub each_stays-loop-expr-init : goal.each_stays-loop-expr-init
each_stays-loop-expr-init t c = refl
