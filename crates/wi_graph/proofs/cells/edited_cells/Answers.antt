use Rattle.wi_graph.proofs.Words.{◌≡◌, arith, common_steps, keys_of}
use Rattle.wi_graph.proofs.ChangeSteps.{cells_step}
use Rattle.wi_graph.proofs.cells.edited_cells.Goals as goal

pub loop-change-preserved : goal.loop-change-preserved
loop-change-preserved c =
    cells_step c.args.changes.now c.loop-change.change-index c.change-item.result c.loop-change.cells.items c.push.new.self.items c.loop-change-test.true c.change-item.is c.in_ok-push.ensures.ok c.loop-change.invariant

pub returns : goal.returns
returns c = let whole : c.loop-change.cells.items ≡ keys_of c.args.changes.now = grind (arith, common_steps) in search whole
