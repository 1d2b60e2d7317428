use Rattle.wi_engine.proofs.Words.{◌+◌, ◌*◌}
use Rattle.std.proofs.Common.{max}
use Rattle.wi_parser.proofs.expr.Expr.TheLaws.{the_size}
use Rattle.wi_engine.proofs.placing.PlacedTrees.{ArePlacedOn}
use Rattle.wi_engine.proofs.placing.+placing.Given as goal

abbrev pub decreases-placed : goal.decreases-placed
decreases-placed l = 4 * the_size l.expr.now

abbrev pub decreases-signed : goal.decreases-signed
decreases-signed l = 4 * the_size l.inner.now + 1

abbrev pub decreases-percent : goal.decreases-percent
decreases-percent l = 4 * the_size l.inner.now + 1

abbrev pub decreases-binary : goal.decreases-binary
decreases-binary l = 4 * max (the_size l.left.now) (the_size l.right.now) + 2

abbrev pub decreases-called : goal.decreases-called
decreases-called l = 4 * goal.size-called l + 3

abbrev pub decreases-all_placed : goal.decreases-all_placed
decreases-all_placed l = 4 * goal.size-all_placed l + 1

abbrev pub invariant-all_placed-loop-parameter : goal.invariant-all_placed-loop-parameter
invariant-all_placed-loop-parameter l = ArePlacedOn l.store.sheet l.places l.parameters l.parameter-index l.all.items
