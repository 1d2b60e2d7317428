use Rattle.wi_scenarios.proofs.Words.{arith}
use Rattle.wi_scenarios.proofs.edit.commit.Goals as goal

pub returns-clause-edit : goal.returns-clause-edit
returns-clause-edit g c = (search (rw c.in_ok-done.was at c.apply_slice-done.ensures.applied), grind arith)
