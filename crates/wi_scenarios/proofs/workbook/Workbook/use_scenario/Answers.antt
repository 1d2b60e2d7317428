use Rattle.wi_scenarios.proofs.workbook.Workbook.use_scenario.Goals as goal

pub returns-clause-edit : goal.returns-clause-edit
returns-clause-edit g c = rw (← c.self.view_is, ← c.as_text.ensures) (c.use_scenario.ensures.served.edit _ _)
