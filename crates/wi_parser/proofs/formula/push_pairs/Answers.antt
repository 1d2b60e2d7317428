use Rattle.wi_parser.proofs.Words.{arith, common_steps}
use Rattle.wi_parser.proofs.formula.push_pairs.Goals as goal

pub loop-pair-preserved : goal.loop-pair-preserved
loop-pair-preserved c = grind (arith, common_steps)

pub returns-clause-inputs : goal.returns-clause-inputs
returns-clause-inputs c = grind (arith, common_steps)

pub returns-clause-rectangles : goal.returns-clause-rectangles
returns-clause-rectangles c = grind (arith, common_steps)
