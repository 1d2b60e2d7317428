use Rattle.wi_functions.proofs.Words.{◌+◌, ◌*◌, max}
use Rattle.wi_functions.proofs.placed.Placed.TheLaws.{the_size}
use Rattle.wi_functions.proofs.number.+numbers.Given as goal

abbrev pub decreases-take_number : goal.decreases-take_number
decreases-take_number l = 8 * the_size l.placed.now + 1

abbrev pub decreases-take_apart : goal.decreases-take_apart
decreases-take_apart l = 8 * the_size l.placed.now + 2

abbrev pub decreases-take_other : goal.decreases-take_other
decreases-take_other l = 8 * the_size l.placed.now

abbrev pub decreases-take_binary : goal.decreases-take_binary
decreases-take_binary l = 8 * max (the_size l.left.now) (the_size l.right.now) + 6

abbrev pub decreases-take_left : goal.decreases-take_left
decreases-take_left l = 8 * max (the_size l.left.now) (the_size l.right.now) + 5

abbrev pub decreases-take_right : goal.decreases-take_right
decreases-take_right l = 8 * the_size l.right.now + 4

abbrev pub decreases-take_right_parts : goal.decreases-take_right_parts
decreases-take_right_parts l = 8 * the_size l.right.now + 3

abbrev pub decreases-take_minus : goal.decreases-take_minus
decreases-take_minus l = 8 * the_size l.inner.now + 3

abbrev pub decreases-take_chosen : goal.decreases-take_chosen
decreases-take_chosen l = 8 * goal.size-take_chosen l + 3

abbrev pub decreases-take_parameter : goal.decreases-take_parameter
decreases-take_parameter l = 8 * goal.size-take_parameter l + 2

abbrev pub decreases-condition : goal.decreases-condition
decreases-condition l = 8 * goal.size-condition l + 2

abbrev pub decreases-compared : goal.decreases-compared
decreases-compared l = 8 * max (the_size l.left.now) (the_size l.right.now) + 4

abbrev pub decreases-compared_deep : goal.decreases-compared_deep
decreases-compared_deep l = 8 * max (the_size l.left.now) (the_size l.right.now) + 3
