use Rattle.wi_graph.proofs.Words.{subst, AreWithin}
use Rattle.wi_graph.proofs.BoundsSteps.{none_within}
use Rattle.wi_graph.proofs.cell_set.CellSet.around_with.Goals as goal

pub returns-then-is_empty-clause-cell : goal.returns-then-is_empty-clause-cell
returns-then-is_empty-clause-cell c = c.around_cell.ensures

pub returns-then-is_empty-clause-others : goal.returns-then-is_empty-clause-others
returns-then-is_empty-clause-others c = subst (AreWithin c.around_cell.result) c.self.view_is (none_within c.self.inside.set c.around_cell.result (c.is_empty.ensures.0 c.if-is_empty.true))

pub returns-else-is_empty-clause-cell : goal.returns-else-is_empty-clause-cell
returns-else-is_empty-clause-cell c = c.with_cell.ensures.cell

pub returns-else-is_empty-clause-others : goal.returns-else-is_empty-clause-others
returns-else-is_empty-clause-others c = subst (AreWithin c.with_cell.result) c.self.view_is (λ d h. c.with_cell.ensures.others d (c.self.invariant d h))
