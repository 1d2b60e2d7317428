use Rattle.wi_value_functions.proofs.Words.{◌≡◌, slice_cmp, nat_cmp}
use Rattle.wi_value_functions.proofs.Comparing.{order_from}
use Rattle.wi_value_functions.proofs.table.compare.Given as goal

-- what is left tells the order
abbrev pub invariant-loop-i : goal.invariant-loop-i
invariant-loop-i l = order_from l.i l.xs l.ys ≡ slice_cmp nat_cmp l.fn.name l.fn.other
