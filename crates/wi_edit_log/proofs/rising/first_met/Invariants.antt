use Rattle.wi_edit_log.proofs.Below.{ArePassed}
use Rattle.wi_edit_log.proofs.rising.first_met.Given as goal

abbrev pub invariant-loop-area : goal.invariant-loop-area
invariant-loop-area l = ArePassed l.one l.areas l.area-index
