use Rattle.wi_scenarios.proofs.workbook.Workbook.table.Goals as goal

pub table-done-requires-clause-placed : goal.table-done-requires-clause-placed
table-done-requires-clause-placed g c = rw c.from_pair.ensures c.is_table_placed.ensures

pub invariant_of-self : goal.invariant_of-self
invariant_of-self g c = (rw (c.lighten.ensures.same, c.table-done.ensures.same) c.self.invariant.0, c.lighten.ensures.light)

pub returns : goal.returns
returns g c =
    rw (c.lighten.ensures.same, c.lighten.ensures.same_evaluations, c.lighten.ensures.same_restarts, ← c.self.view_is, ← c.from_pair.ensures) c.table-done.ensures.looks
