use Rattle.wi_parser.proofs.Words.{rules, arith, common_steps, pair_at}
use Rattle.wi_parser.proofs.what_if.pair.Goals as goal

pub returns-clause-finds : goal.returns-clause-finds
unfolding pair_at
returns-clause-finds c = search rules

pub returns-clause-shorter : goal.returns-clause-shorter
returns-clause-shorter c = grind (arith, common_steps)
