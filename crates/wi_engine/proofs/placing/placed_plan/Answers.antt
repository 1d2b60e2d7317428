use Rattle.wi_engine.proofs.placing.PlacedPlans.{one_more_cell}
use Rattle.wi_engine.proofs.placing.placed_plan.Goals as goal

pub loop-planned-preserved : goal.loop-planned-preserved
loop-planned-preserved c =
    one_more_cell c.args.store.now.sheet c.args.inputs.now c.args.cells.now c.loop-planned.planned-index c.planned-item.result c.loop-planned.placed.items c.push.new.self.items c.in-Some.cell c.loop-planned.places c.add-in-loop-planned.new.self
    c.loop-planned-test.true c.planned-item.is c.in_ok-push.ensures.items (rw c.in-Some.is at c.in_ok-cell.ensures) c.in_ok-add-2.ensures c.loop-planned.invariant
