use Rattle.wi_ranges.proofs.Words.{rules}
use Rattle.wi_ranges.proofs.few.Many.add.Goals as goal

pub returns-clause-more : goal.returns-clause-more
returns-clause-more c = search rules
