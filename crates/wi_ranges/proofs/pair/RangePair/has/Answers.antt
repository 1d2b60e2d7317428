use Rattle.wi_ranges.proofs.Words.{rules}
use Rattle.wi_ranges.proofs.pair.RangePair.has.Goals as goal

pub returns-then-column : goal.returns-then-column
returns-then-column c = search rules
