use Rattle.wi_ranges.proofs.LargestLemmas.{blocks_are_largest}
use Rattle.wi_ranges.proofs.laws.blocks_are_largest.Goals as goal

pub returns : goal.returns
returns c = blocks_are_largest
