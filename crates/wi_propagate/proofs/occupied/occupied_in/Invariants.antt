use Rattle.wi_propagate.proofs.Words.{◌≡◌, ◌++◌, places_left, occupied, cells_ahead}
use Rattle.wi_propagate.proofs.occupied.occupied_in.Given as goal

-- what is found and what is ahead are all of them
abbrev pub invariant-loop-ahead : goal.invariant-loop-ahead
invariant-loop-ahead g l =
    let sheet = (g.C.Calculator.stored l.calculator).sheet in
    l.found.items ++ cells_ahead sheet l.area l.ahead ≡ occupied sheet l.area

abbrev pub decreases-loop-ahead : goal.decreases-loop-ahead
decreases-loop-ahead g l = places_left l.area l.ahead
