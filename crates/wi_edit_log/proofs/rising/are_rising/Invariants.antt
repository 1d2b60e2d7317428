use Rattle.wi_edit_log.proofs.Words.{◌≡◌, drop, are_rising, rise_from}
use Rattle.wi_edit_log.proofs.rising.are_rising.Given as goal

abbrev pub invariant-loop-area : goal.invariant-loop-area
invariant-loop-area l = are_rising l.areas ≡ rise_from l.next (drop l.area-index l.areas)
