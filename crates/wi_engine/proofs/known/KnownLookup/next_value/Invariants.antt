use Rattle.wi_engine.proofs.Words.{places_left, cell_known, Passed}
use Rattle.wi_engine.proofs.known.KnownLookup.next_value.Given as goal

abbrev pub invariant-loop-ahead : goal.invariant-loop-ahead
invariant-loop-ahead l = Passed (cell_known l.self.store.now.sheet l.self.world.now l.self.found.now) l.area l.fn.from l.ahead

abbrev pub decreases-loop-ahead : goal.decreases-loop-ahead
decreases-loop-ahead l = places_left l.area l.ahead
