use Rattle.wi_edit_log.proofs.Words.{take, IsFirst, in_each}
use Rattle.wi_edit_log.proofs.search.first_in_each.Given as goal

abbrev pub invariant-loop-one : goal.invariant-loop-one
invariant-loop-one l = IsFirst (in_each (take l.one-index l.few) l.many) l.first
