use Rattle.wi_graph.proofs.Words.{ap, refl, ◌+◌}
use Rattle.wi_graph.proofs.StagingSteps.{bringing_start, bringing_step, bringing_end}
use Rattle.wi_graph.proofs.staging.bring_in.Goals as goal

pub loop-entry-init : goal.loop-entry-init
loop-entry-init c = (refl, bringing_start c.args.rooms.now c.args.readers.now c.requires.ordered c.requires.pairs)

pub loop-entry-preserved : goal.loop-entry-preserved
loop-entry-preserved c = (
  ap (λ n. n + 1) c.loop-entry.invariant.0,
  bringing_step c.args.rooms.now c.loop-entry.rooms c.bring_one.new.rooms c.loop-entry.readers c.bring_one.new.readers c.args.coming.now c.loop-entry.entry-index c.entry-item.result c.requires.order c.loop-entry-test.true c.entry-item.is
      c.bring_one.ensures.ordered c.bring_one.ensures.rooms c.in-Ok.ensures.room c.in-Ok.ensures.stay c.in-Ok.ensures.readers c.loop-entry.invariant.1,
)

pub returns-clause-has_rooms : goal.returns-clause-has_rooms
returns-clause-has_rooms c = (bringing_end c.args.rooms.now c.loop-entry.rooms c.args.coming.now c.loop-entry.readers c.loop-entry.entry-index c.requires.order c.loop-entry-test.false c.loop-entry.invariant.1).0

pub returns-clause-pairs : goal.returns-clause-pairs
returns-clause-pairs c = (bringing_end c.args.rooms.now c.loop-entry.rooms c.args.coming.now c.loop-entry.readers c.loop-entry.entry-index c.requires.order c.loop-entry-test.false c.loop-entry.invariant.1).1
