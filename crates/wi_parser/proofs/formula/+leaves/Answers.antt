use Rattle.wi_parser.proofs.Words.{arith, ap, sym, ◌∙◌, [], ◌∷◌, ◌++◌, common_steps, flat_map, leaves, tree_of, leaf_inputs, leaf_rectangles}
use Rattle.wi_parser.proofs.Appended.{both_appended, same_appended, none_appended, one_appended, what_if_rectangles, what_if_inputs}
use Rattle.wi_parser.proofs.ExprTrees.{number_leaves, text_leaves, cell_leaves, rectangle_leaves, parenthesized_leaves, signed_leaves, percent_leaves, binary_leaves, what_if_leaves, call_leaves}
use Rattle.wi_parser.proofs.formula.+leaves.Goals as goal

pub push_leaves-returns-in-Number-clause-inputs : goal.push_leaves-returns-in-Number-clause-inputs
push_leaves-returns-in-Number-clause-inputs t c = none_appended leaf_inputs c.args.inputs.now.items (leaves (tree_of c.args.expr.now)) (ap (flat_map leaf_inputs) (number_leaves _ _ c.in-Number.is))

pub push_leaves-returns-in-Number-clause-rectangles : goal.push_leaves-returns-in-Number-clause-rectangles
push_leaves-returns-in-Number-clause-rectangles t c =
    none_appended leaf_rectangles c.args.rectangles.now.items (leaves (tree_of c.args.expr.now)) (ap (flat_map leaf_rectangles) (number_leaves _ _ c.in-Number.is))

pub push_leaves-returns-in-Text-clause-inputs : goal.push_leaves-returns-in-Text-clause-inputs
push_leaves-returns-in-Text-clause-inputs t c = none_appended leaf_inputs c.args.inputs.now.items (leaves (tree_of c.args.expr.now)) (ap (flat_map leaf_inputs) (text_leaves _ _ c.in-Text.is))

pub push_leaves-returns-in-Text-clause-rectangles : goal.push_leaves-returns-in-Text-clause-rectangles
push_leaves-returns-in-Text-clause-rectangles t c =
    none_appended leaf_rectangles c.args.rectangles.now.items (leaves (tree_of c.args.expr.now)) (ap (flat_map leaf_rectangles) (text_leaves _ _ c.in-Text.is))

pub push_leaves-returns-in_ok-push_area-in-Cell-clause-inputs : goal.push_leaves-returns-in_ok-push_area-in-Cell-clause-inputs
push_leaves-returns-in_ok-push_area-in-Cell-clause-inputs t c =
    none_appended leaf_inputs c.args.inputs.now.items (leaves (tree_of c.args.expr.now)) (ap (flat_map leaf_inputs) (cell_leaves _ _ c.in-Cell.is))

pub push_leaves-returns-in_ok-push_area-in-Cell-clause-rectangles : goal.push_leaves-returns-in_ok-push_area-in-Cell-clause-rectangles
push_leaves-returns-in_ok-push_area-in-Cell-clause-rectangles t c =
    one_appended leaf_rectangles _ _ _ _ (ap (flat_map leaf_rectangles) (cell_leaves _ _ c.in-Cell.is) ∙ ap (λ a. a ∷ []) (sym c.cell_area.ensures)) c.in_ok-push_area-in-Cell.ensures

pub push_leaves-returns-in_ok-push_area-in-Rectangle-clause-inputs : goal.push_leaves-returns-in_ok-push_area-in-Rectangle-clause-inputs
push_leaves-returns-in_ok-push_area-in-Rectangle-clause-inputs t c =
    none_appended leaf_inputs c.args.inputs.now.items (leaves (tree_of c.args.expr.now)) (ap (flat_map leaf_inputs) (rectangle_leaves _ _ c.in-Rectangle.is))

pub push_leaves-returns-in_ok-push_area-in-Rectangle-clause-rectangles : goal.push_leaves-returns-in_ok-push_area-in-Rectangle-clause-rectangles
push_leaves-returns-in_ok-push_area-in-Rectangle-clause-rectangles t c =
    one_appended leaf_rectangles _ _ _ _ (ap (flat_map leaf_rectangles) (rectangle_leaves _ _ c.in-Rectangle.is) ∙ ap (λ a. a ∷ []) (sym c.area.ensures)) c.in_ok-push_area-in-Rectangle.ensures

pub push_leaves-returns-in-Parenthesized-clause-inputs : goal.push_leaves-returns-in-Parenthesized-clause-inputs
push_leaves-returns-in-Parenthesized-clause-inputs t c =
    same_appended leaf_inputs _ _ _ _ _ (parenthesized_leaves _ _ _ c.in-Parenthesized.is c.deref.ensures) c.push_leaves.ensures.inputs

pub push_leaves-returns-in-Parenthesized-clause-rectangles : goal.push_leaves-returns-in-Parenthesized-clause-rectangles
push_leaves-returns-in-Parenthesized-clause-rectangles t c =
    same_appended leaf_rectangles _ _ _ _ _ (parenthesized_leaves _ _ _ c.in-Parenthesized.is c.deref.ensures) c.push_leaves.ensures.rectangles

pub push_leaves-returns-in-Signed-clause-inputs : goal.push_leaves-returns-in-Signed-clause-inputs
push_leaves-returns-in-Signed-clause-inputs t c =
    same_appended leaf_inputs _ _ _ _ _ (signed_leaves _ _ _ _ c.in-Signed.is c.deref-in-Signed.ensures) c.push_leaves-in-Signed.ensures.inputs

pub push_leaves-returns-in-Signed-clause-rectangles : goal.push_leaves-returns-in-Signed-clause-rectangles
push_leaves-returns-in-Signed-clause-rectangles t c =
    same_appended leaf_rectangles _ _ _ _ _ (signed_leaves _ _ _ _ c.in-Signed.is c.deref-in-Signed.ensures) c.push_leaves-in-Signed.ensures.rectangles

pub push_leaves-returns-in-Percent-clause-inputs : goal.push_leaves-returns-in-Percent-clause-inputs
push_leaves-returns-in-Percent-clause-inputs t c =
    same_appended leaf_inputs _ _ _ _ _ (percent_leaves _ _ _ c.in-Percent.is c.deref-in-Percent.ensures) c.push_leaves-in-Percent.ensures.inputs

pub push_leaves-returns-in-Percent-clause-rectangles : goal.push_leaves-returns-in-Percent-clause-rectangles
push_leaves-returns-in-Percent-clause-rectangles t c =
    same_appended leaf_rectangles _ _ _ _ _ (percent_leaves _ _ _ c.in-Percent.is c.deref-in-Percent.ensures) c.push_leaves-in-Percent.ensures.rectangles

pub push_leaves-returns-in_ok-push_leaves-in-Binary-clause-inputs : goal.push_leaves-returns-in_ok-push_leaves-in-Binary-clause-inputs
push_leaves-returns-in_ok-push_leaves-in-Binary-clause-inputs t c =
    same_appended leaf_inputs _ _ _ _ _ (binary_leaves _ _ _ _ _ c.in-Binary.is c.deref-in-Binary.ensures c.deref-in-Binary-2.ensures)
    (both_appended leaf_inputs c.push_leaves-in-Binary-2.result c.args.inputs.now.items c.push_leaves-in-Binary.new.inputs.items c.push_leaves-in-Binary-2.new.inputs.items
    (leaves (tree_of c.deref-in-Binary.result.now.0)) (leaves (tree_of c.deref-in-Binary-2.result.now.1)) c.in_ok-push_leaves-in-Binary.ensures.inputs c.push_leaves-in-Binary-2.ensures.inputs)

pub push_leaves-returns-in_ok-push_leaves-in-Binary-clause-rectangles : goal.push_leaves-returns-in_ok-push_leaves-in-Binary-clause-rectangles
push_leaves-returns-in_ok-push_leaves-in-Binary-clause-rectangles t c =
    same_appended leaf_rectangles _ _ _ _ _ (binary_leaves _ _ _ _ _ c.in-Binary.is c.deref-in-Binary.ensures c.deref-in-Binary-2.ensures)
    (both_appended leaf_rectangles c.push_leaves-in-Binary-2.result c.args.rectangles.now.items c.push_leaves-in-Binary.new.rectangles.items c.push_leaves-in-Binary-2.new.rectangles.items
    (leaves (tree_of c.deref-in-Binary.result.now.0)) (leaves (tree_of c.deref-in-Binary-2.result.now.1)) c.in_ok-push_leaves-in-Binary.ensures.rectangles c.push_leaves-in-Binary-2.ensures.rectangles)

pub push_leaves-returns-in_ok-push_area-in-WhatIf-clause-inputs : goal.push_leaves-returns-in_ok-push_area-in-WhatIf-clause-inputs
push_leaves-returns-in_ok-push_area-in-WhatIf-clause-inputs t c =
    what_if_inputs _ _ _ _ _ _ (what_if_leaves _ _ _ _ _ c.in-WhatIf.is c.deref-in-WhatIf.ensures c.deref-in-WhatIf-2.ensures c.deref-in-WhatIf-3.ensures.value) c.push_pairs.ensures.inputs

pub push_leaves-returns-in_ok-push_area-in-WhatIf-clause-rectangles : goal.push_leaves-returns-in_ok-push_area-in-WhatIf-clause-rectangles
push_leaves-returns-in_ok-push_area-in-WhatIf-clause-rectangles t c =
    what_if_rectangles _ _ _ _ _ _ _ (what_if_leaves _ _ _ _ _ c.in-WhatIf.is c.deref-in-WhatIf.ensures c.deref-in-WhatIf-2.ensures c.deref-in-WhatIf-3.ensures.value)
    (c.in_ok-push_area-in-WhatIf.ensures ∙ ap (λ a. c.args.rectangles.now.items ++ a ∷ []) c.cell_area-in-WhatIf.ensures) c.push_pairs.ensures.rectangles

pub push_leaves-returns-in-Call-clause-inputs : goal.push_leaves-returns-in-Call-clause-inputs
push_leaves-returns-in-Call-clause-inputs t c =
    same_appended leaf_inputs _ _ _ _ _ (call_leaves _ _ _ _ c.in-Call.is c.deref-in-Call.ensures c.deref-in-Call-2.ensures.value) c.push_all_leaves.ensures.inputs

pub push_leaves-returns-in-Call-clause-rectangles : goal.push_leaves-returns-in-Call-clause-rectangles
push_leaves-returns-in-Call-clause-rectangles t c =
    same_appended leaf_rectangles _ _ _ _ _ (call_leaves _ _ _ _ c.in-Call.is c.deref-in-Call.ensures c.deref-in-Call-2.ensures.value) c.push_all_leaves.ensures.rectangles

pub push_all_leaves-loop-tree-preserved : goal.push_all_leaves-loop-tree-preserved
push_all_leaves-loop-tree-preserved t c = grind (arith, common_steps)

pub push_all_leaves-returns-clause-inputs : goal.push_all_leaves-returns-clause-inputs
push_all_leaves-returns-clause-inputs t c = grind (arith, common_steps)

pub push_all_leaves-returns-clause-rectangles : goal.push_all_leaves-returns-clause-rectangles
push_all_leaves-returns-clause-rectangles t c = grind (arith, common_steps)
