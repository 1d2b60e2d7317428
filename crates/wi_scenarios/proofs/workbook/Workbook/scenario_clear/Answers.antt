use Rattle.wi_scenarios.proofs.workbook.Workbook.scenario_clear.Goals as goal

pub returns : goal.returns
returns g c = rw (← c.self.view_is, ← c.as_str.ensures) (c.take_away.ensures.edit _ _)
