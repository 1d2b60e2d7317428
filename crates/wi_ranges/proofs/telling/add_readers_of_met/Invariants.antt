use Rattle.wi_ranges.proofs.Words.{take, [], ◌∷◌}
use Rattle.wi_ranges.specs.Inner.Telling.{is_gone, Tells}
use Rattle.wi_ranges.proofs.telling.add_readers_of_met.Given as goal

abbrev pub invariant-loop-area : goal.invariant-loop-area
invariant-loop-area l = Tells l.pieces.keys (l.block ∷ []) l.at (is_gone l.block (take l.area-index l.areas)) (is_gone l.block (take l.area-index l.areas)) l.initial.readers l.readers
