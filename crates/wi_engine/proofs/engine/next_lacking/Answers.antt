use Rattle.wi_engine.proofs.Words.{arith, common_steps}
use Rattle.wi_engine.proofs.engine.next_lacking.Goals as goal

pub loop-at-preserved : goal.loop-at-preserved
loop-at-preserved c = grind (arith, common_steps)

pub returns-then-is_lacking-clause-rest : goal.returns-then-is_lacking-clause-rest
returns-then-is_lacking-clause-rest c = grind (arith, common_steps)

pub returns-then-is_lacking-clause-next : goal.returns-then-is_lacking-clause-next
returns-then-is_lacking-clause-next c = grind (arith, common_steps)

pub returns-then-is_lacking-clause-passed : goal.returns-then-is_lacking-clause-passed
returns-then-is_lacking-clause-passed c = grind (arith, common_steps)
