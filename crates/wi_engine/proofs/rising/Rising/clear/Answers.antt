use Rattle.wi_engine.proofs.rising.BinarySearch.{none_rise}
use Rattle.wi_engine.proofs.rising.Rising.clear.Goals as goal

pub invariant_of-self : goal.invariant_of-self
invariant_of-self c = none_rise c.clear.new.self.items c.clear.ensures.items
