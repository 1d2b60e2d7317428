use Rattle.wi_engine.proofs.known.HandOver.{AreHanded}
use Rattle.wi_engine.proofs.known.Known.hand_stored.Given as goal

-- what was handed over, and what is to come
abbrev pub invariant-loop-at : goal.invariant-loop-at
invariant-loop-at g l = AreHanded g.T.TakesCells.after g.met.T.TakesCells.passes_empty l.self.store.now.sheet l.self.world.now l.self.found.now l.fn.area l.fn.from l.replaced l.fn.taker l.taker l.at-iterator
