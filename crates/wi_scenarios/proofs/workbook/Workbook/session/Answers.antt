use Rattle.wi_scenarios.proofs.workbook.Workbook.session.Goals as goal

pub returns : goal.returns
returns g c = rw (← c.self.view_is, ← c.as_str.ensures) c.session.ensures.current
