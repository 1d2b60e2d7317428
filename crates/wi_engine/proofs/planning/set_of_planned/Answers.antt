use Rattle.wi_engine.proofs.Words.{false, nat_cmp, contains}
use Rattle.wi_engine.proofs.planning.NextPlanned.{one_more_planned}
use Rattle.wi_engine.proofs.planning.set_of_planned.Goals as goal

pub loop-cell-preserved : goal.loop-cell-preserved
loop-cell-preserved c =
    one_more_planned (λ d. false) (contains nat_cmp c.loop-cell.set) (contains nat_cmp c.insert.new.self) c.args.cells.now c.loop-cell.cell-index c.cell-item.result c.loop-cell-test.true c.cell-item.is c.loop-cell.invariant c.in_ok-insert.ensures.updates.0
