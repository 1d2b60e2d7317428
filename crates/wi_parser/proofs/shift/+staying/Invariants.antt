use Rattle.wi_parser.proofs.Words.{◌≡◌, drop, list_all, flat_map, all_leaves, all_of, stays, leaf_references}
use Rattle.wi_parser.proofs.shift.+staying.Given as goal

abbrev pub invariant-each_stays-loop-expr : goal.invariant-each_stays-loop-expr
invariant-each_stays-loop-expr l =
    list_all (stays l.rows l.columns) (flat_map leaf_references (all_leaves (all_of (drop l.expr-index l.exprs))))
    ≡ list_all (stays l.rows l.columns) (flat_map leaf_references (all_leaves (all_of l.exprs)))
