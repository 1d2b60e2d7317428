use Rattle.wi_ranges.proofs.Words.{rules}
use Rattle.wi_ranges.proofs.index.RangeIndex.new.Goals as goal

pub returns : goal.returns
returns c = search rules

pub invariant_of-result : goal.invariant_of-result
invariant_of-result c = search rules
