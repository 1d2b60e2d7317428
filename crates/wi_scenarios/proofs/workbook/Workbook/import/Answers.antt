use Rattle.wi_scenarios.proofs.workbook.Workbook.import.Goals as goal

pub invariant_of-self : goal.invariant_of-self
invariant_of-self g c = (rw c.lighten.ensures.same c.import-done.ensures.sound, c.lighten.ensures.light)

pub returns : goal.returns
returns g c =
    rw (c.lighten.ensures.same, c.lighten.ensures.same_evaluations, c.lighten.ensures.same_restarts, ← c.self.view_is) c.import-done.ensures.edit
