use Rattle.wi_ranges.proofs.Words.{rules}
use Rattle.wi_ranges.proofs.rising_set.RisingSet.new.Goals as goal

pub returns : goal.returns
returns c = search rules
