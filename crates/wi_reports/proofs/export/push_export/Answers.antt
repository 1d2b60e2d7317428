use Rattle.wi_reports.proofs.export.push_export.Goals as goal

pub returns-clause-cost : goal.returns-clause-cost
returns-clause-cost g c = let cost = c.in_ok-push_rows.ensures.cost in search (cost)
