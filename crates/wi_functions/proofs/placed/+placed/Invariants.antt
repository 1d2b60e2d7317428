use Rattle.wi_functions.proofs.Words.{◌≡◌, ◌++◌, ◌+◌, ◌*◌, max, drop}
use Rattle.wi_functions.proofs.placed.Placed.TheLaws.{the_size}
use Rattle.wi_functions.specs.Placed.{placed_values}
use Rattle.wi_functions.proofs.placed.+placed.Given as goal

abbrev pub decreases-value_of_placed : goal.decreases-value_of_placed
decreases-value_of_placed l = 4 * the_size l.placed.now

abbrev pub decreases-signed_placed : goal.decreases-signed_placed
decreases-signed_placed l = 4 * the_size l.inner.now + 1

abbrev pub decreases-percent_placed : goal.decreases-percent_placed
decreases-percent_placed l = 4 * the_size l.inner.now + 1

abbrev pub decreases-binary_placed : goal.decreases-binary_placed
decreases-binary_placed l = 4 * max (the_size l.left.now) (the_size l.right.now) + 2

abbrev pub decreases-with_right_placed : goal.decreases-with_right_placed
decreases-with_right_placed l = 4 * the_size l.right.now + 1

abbrev pub decreases-lazy_placed : goal.decreases-lazy_placed
decreases-lazy_placed l = 4 * goal.size-lazy_placed l + 2

abbrev pub decreases-parameter_or : goal.decreases-parameter_or
decreases-parameter_or l = 4 * goal.size-parameter_or l + 1

abbrev pub decreases-values_placed : goal.decreases-values_placed
decreases-values_placed l = 4 * goal.size-values_placed l + 1

-- the values so far and those of the parameters to come are all
abbrev pub invariant-values_placed-loop-parameter : goal.invariant-values_placed-loop-parameter
invariant-values_placed-loop-parameter l = l.taken.items ++ placed_values (drop l.parameter-index l.parameters) l.values ≡ placed_values l.parameters l.values
