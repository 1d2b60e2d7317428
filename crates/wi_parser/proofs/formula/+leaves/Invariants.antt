use Rattle.wi_parser.proofs.Words.{◌≡◌, ◌++◌, drop, flat_map, all_leaves, all_of, leaf_inputs, leaf_rectangles}
use Rattle.wi_parser.proofs.formula.+leaves.Given as goal

abbrev pub invariant-push_all_leaves-loop-tree : goal.invariant-push_all_leaves-loop-tree
invariant-push_all_leaves-loop-tree l =
    (l.inputs.items ++ flat_map leaf_inputs (all_leaves (all_of (drop l.tree-index l.trees))) ≡ l.fn.inputs.items ++ flat_map leaf_inputs (all_leaves (all_of l.trees)))
    × (l.rectangles.items ++ flat_map leaf_rectangles (all_leaves (all_of (drop l.tree-index l.trees))) ≡ l.fn.rectangles.items ++ flat_map leaf_rectangles (all_leaves (all_of l.trees)))
