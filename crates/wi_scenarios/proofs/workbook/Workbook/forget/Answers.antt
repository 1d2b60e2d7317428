use Rattle.wi_scenarios.proofs.workbook.Workbook.forget.Goals as goal

pub invariant_of-self : goal.invariant_of-self
invariant_of-self g c = (rw (c.lighten.ensures.same, c.forget.ensures.same) c.self.invariant.0, c.lighten.ensures.light)

pub returns : goal.returns
returns g c =
    let view = c.self.view_is in
    rw (c.lighten.ensures.same, c.lighten.ensures.same_evaluations, c.lighten.ensures.same_restarts, c.forget.ensures.same, c.forget.ensures.same_evaluations, c.forget.ensures.same_restarts) (search view)
