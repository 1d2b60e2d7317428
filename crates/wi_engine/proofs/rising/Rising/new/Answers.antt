use Rattle.wi_engine.proofs.rising.BinarySearch.{none_rise}
use Rattle.wi_engine.proofs.rising.Rising.new.Goals as goal

pub invariant_of-result : goal.invariant_of-result
invariant_of-result c = none_rise c.new.result.items c.new.ensures.items
