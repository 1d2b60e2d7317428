use Rattle.wi_graph.proofs.RoomSteps.{reads_same}
use Rattle.wi_graph.proofs.StagingSteps.{taking_out_start, taking_out_step, taking_out_end}
use Rattle.wi_graph.proofs.staging.cancel_these.Goals as goal

pub loop-entry-init : goal.loop-entry-init
loop-entry-init c = taking_out_start c.args.rooms.now c.args.readers.now c.args.brought.now c.requires.ordered c.requires.pairs

pub loop-entry-preserved : goal.loop-entry-preserved
loop-entry-preserved c =
    taking_out_step c.args.rooms.now c.loop-entry.rooms c.sweep_one.new.rooms c.loop-entry.readers c.remove_room.new.readers c.args.brought.now c.loop-entry.entry-index c.entry-item.result c.loop-entry-test.true c.entry-item.is
    c.remove_room.ensures c.sweep_one.ensures.order (reads_same c.loop-entry.rooms c.sweep_one.new.rooms c.sweep_one.ensures.same) c.loop-entry.invariant

pub returns-clause-pairs : goal.returns-clause-pairs
returns-clause-pairs c = taking_out_end c.args.rooms.now c.loop-entry.rooms c.loop-entry.readers c.args.brought.now c.loop-entry.entry-index c.loop-entry-test.false c.loop-entry.invariant
