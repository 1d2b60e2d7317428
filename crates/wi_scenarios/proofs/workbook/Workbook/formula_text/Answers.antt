use Rattle.wi_scenarios.proofs.workbook.Workbook.formula_text.Goals as goal

pub returns : goal.returns
returns g c = rw (← c.self.view_is) (c.formula.ensures c.self.inside.desk)
