use Rattle.wi_reports.proofs.compare.push_compared.Goals as goal

pub returns-clause-cost : goal.returns-clause-cost
returns-clause-cost g c = c.in_ok-after.ensures.cost

pub returns-in_err-after-clause-cost : goal.returns-in_err-after-clause-cost
returns-in_err-after-clause-cost g c = c.in_err-after.ensures.cost
