use Rattle.wi_reports.proofs.Words.{arith, common_steps}
use Rattle.wi_reports.proofs.table.push_all.Goals as goal

pub returns-clause-ok : goal.returns-clause-ok
returns-clause-ok g c = grind (arith, common_steps)

pub returns-clause-kept : goal.returns-clause-kept
returns-clause-kept g c = grind (arith, common_steps)

pub push_rows-requires-clause-order : goal.push_rows-requires-clause-order
push_rows-requires-clause-order g c = c.requires.order

pub push_head-requires : goal.push_head-requires
push_head-requires g c = c.requires.order
