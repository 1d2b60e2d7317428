use Rattle.wi_graph.proofs.Words.{subst, ◌≡◌, take_all, nat_cmp, Coming, areas_of, room_over, items_there}
use Rattle.std.specs.BTreeMap.{get}
use Rattle.wi_graph.proofs.TurningSteps.{brought_step}
use Rattle.wi_graph.proofs.reads.reads_of.Goals as goal

pub loop-entry-init : goal.loop-entry-init
loop-entry-init c = c.in_ok-reads.ensures

pub loop-entry-preserved : goal.loop-entry-preserved
loop-entry-preserved c d h =
    brought_step c.args.rooms.now c.args.next.now c.loop-entry.entry-index c.entry-item.result c.loop-entry.reads c.insert.new.self c.in_ok-areas.areas c.requires c.loop-entry-test.true c.entry-item.is
    c.in_ok-areas.ensures c.in_ok-insert.ensures.updates.0 d (c.loop-entry.invariant d h)

pub returns : goal.returns
returns c d h =
    subst (λ (xs : Coming). items_there (get nat_cmp c.loop-entry.reads d) ≡ areas_of (room_over xs c.args.rooms.now d)) (take_all c.loop-entry.entry-index c.args.next.now c.loop-entry-test.false) (c.loop-entry.invariant d h)
