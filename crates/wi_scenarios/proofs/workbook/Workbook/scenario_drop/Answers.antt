use Rattle.wi_scenarios.proofs.workbook.Workbook.scenario_drop.Goals as goal

pub returns : goal.returns
returns g c = rw (← c.self.view_is, ← c.as_str.ensures) c.drop.ensures.dropped
