use Rattle.wi_engine.proofs.Words.{◌≡◌, ◌-◌, drop, length, cells_ahead, unread}
use Rattle.wi_engine.proofs.walk.Visit.next.Given as goal

abbrev pub invariant-loop-area : goal.invariant-loop-area
invariant-loop-area l = cells_ahead l.store.sheet (drop l.rectangle l.rectangles) l.after ≡ unread l.store.sheet l.self

abbrev pub decreases-loop-area : goal.decreases-loop-area
decreases-loop-area l = length l.rectangles - l.rectangle
