use Rattle.wi_parser.proofs.Words.{arith, common_steps}
use Rattle.wi_parser.proofs.print.push_pairs.Goals as goal

pub loop-pair-preserved : goal.loop-pair-preserved
loop-pair-preserved c = grind (arith, common_steps)

pub returns-in_err-push_pair-clause-kept : goal.returns-in_err-push_pair-clause-kept
returns-in_err-push_pair-clause-kept c = grind (arith, common_steps)
