use Rattle.wi_graph.proofs.SetSteps.{gained}
use Rattle.wi_graph.proofs.Words.{nat_cmp, contains}
use Rattle.wi_graph.proofs.SearchSteps.{enqueued_new, was_new}
use Rattle.wi_graph.proofs.cone.enqueue_one.Goals as goal

pub returns-in_ok-push : goal.returns-in_ok-push
returns-in_ok-push c =
    let x = c.args.cell in
    let old = c.args.found.now in
    let new = c.insert.new.self in
    enqueued_new x old new c.args.work.now.items c.push.new.self.items (was_new c.in_ok-insert.field-0 (contains nat_cmp old x) c.in_ok-insert.ensures.added c.if-branch.true) (gained old new x c.in_ok-insert.ensures.has) c.in_ok-push.ensures.items
