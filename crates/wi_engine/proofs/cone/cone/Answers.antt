use Rattle.wi_engine.proofs.Words.{◌∙◌, sym, nat_cmp, contains}
use Rattle.wi_engine.proofs.cone.ConeSteps.{step_reaches, cone_more, cone_same}
use Rattle.wi_engine.proofs.cone.cone.Goals.{then-steps_into+in_ok-insert, else-steps_into}
use Rattle.wi_engine.proofs.cone.cone.Goals as goal

pub loop-cell-preserved : goal.loop-cell-preserved
loop-cell-preserved c =
    let s = c.args.store.now.sheet in
    let order = c.args.order.now in
    let i = c.loop-cell.cell-index in
    let cell = c.cell-item.result in
    let right = c.steps_into.ensures ∙ step_reaches s order i cell c.args.at (contains nat_cmp c.loop-cell.cone) c.requires c.loop-cell-test.true c.cell-item.is c.loop-cell.invariant in
    elim c.if-steps_into.branch [
      | then-steps_into+in_ok-insert w ↦ rw w.cone-is (cone_more s order i cell c.args.at (contains nat_cmp c.loop-cell.cone) (contains nat_cmp w.insert.new.self) c.loop-cell-test.true c.cell-item.is c.loop-cell.invariant (sym right ∙ w.if-steps_into.true) w.in_ok-insert.ensures.updates.0)
      | else-steps_into w ↦ rw w.cone-is (cone_same s order i cell c.args.at (contains nat_cmp c.loop-cell.cone) c.loop-cell-test.true c.cell-item.is c.loop-cell.invariant (sym right ∙ w.if-steps_into.false))
    ]
