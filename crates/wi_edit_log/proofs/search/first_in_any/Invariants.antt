use Rattle.wi_edit_log.proofs.Words.{take, IsFirst, in_one}
use Rattle.wi_edit_log.proofs.search.first_in_any.Given as goal

abbrev pub invariant-loop-other : goal.invariant-loop-other
invariant-loop-other l = IsFirst (in_one l.one (take l.other-index l.others)) l.first
