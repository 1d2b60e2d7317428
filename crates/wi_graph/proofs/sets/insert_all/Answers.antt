use Rattle.wi_graph.proofs.SetSteps.{found_more, insert_only, unchanged_test}
use Rattle.wi_graph.proofs.sets.insert_all.Goals as goal

pub loop-cell-preserved : goal.loop-cell-preserved
loop-cell-preserved c =
    found_more c.args.cells.now c.loop-cell.cell-index c.cell-item.result c.args.set.now c.loop-cell.set c.insert.new.self c.loop-cell-test.true c.cell-item.is c.in_ok-insert.ensures.updates.0 c.loop-cell.invariant

pub returns-in_err-insert-clause-only : goal.returns-in_err-insert-clause-only
returns-in_err-insert-clause-only c = insert_only c.args.cells.now c.loop-cell.cell-index c.args.set.now c.insert.new.self (unchanged_test c.loop-cell.set c.insert.new.self c.in_err-insert.ensures.err _ c.loop-cell.invariant)
