use Rattle.wi_parser.proofs.Words.{◌≡◌, ◌+◌, ◌*◌, max, take, map, tree_of, moved, map_references}
use Rattle.wi_parser.proofs.expr.Expr.TheLaws.{the_size}
use Rattle.wi_parser.proofs.shift.+shift.Given as goal

abbrev pub decreases-shifted : goal.decreases-shifted
decreases-shifted l = 2 * the_size l.expr.now

abbrev pub decreases-boxed : goal.decreases-boxed
decreases-boxed l = 2 * the_size l.expr.now + 1

abbrev pub decreases-binary_shifted : goal.decreases-binary_shifted
decreases-binary_shifted l = 2 * max (the_size l.left.now) (the_size l.right.now) + 1

abbrev pub decreases-each_shifted : goal.decreases-each_shifted
decreases-each_shifted l = 2 * goal.size-each_shifted l + 1

abbrev pub invariant-each_shifted-loop-expr : goal.invariant-each_shifted-loop-expr
invariant-each_shifted-loop-expr l =
    map tree_of l.moved.items ≡ map (map_references (moved l.rows l.columns)) (map tree_of (take l.expr-index l.exprs))
