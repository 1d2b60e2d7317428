use Rattle.wi_parser.proofs.Words.{◌≡◌, ◌+◌, ◌*◌, max, take, map, tree_of}
use Rattle.wi_parser.proofs.expr.Expr.TheLaws.{the_size}
use Rattle.wi_parser.proofs.expr.+copying.Given as goal

abbrev pub decreases-Expr::copy : goal.decreases-Expr::copy
decreases-Expr::copy l = 2 * the_size l.self.now

abbrev pub decreases-copied : goal.decreases-copied
decreases-copied l = 2 * the_size l.expr.now + 1

abbrev pub decreases-binary_copied : goal.decreases-binary_copied
decreases-binary_copied l = 2 * max (the_size l.left.now) (the_size l.right.now) + 1

abbrev pub decreases-all_copied : goal.decreases-all_copied
decreases-all_copied l = 2 * goal.size-all_copied l + 1

abbrev pub invariant-all_copied-loop-expr : goal.invariant-all_copied-loop-expr
invariant-all_copied-loop-expr l = map tree_of l.copies.items ≡ map tree_of (take l.expr-index l.exprs)
