use Rattle.wi_graph.proofs.Words.{ap, ◌+◌}
use Rattle.wi_graph.proofs.StagingSteps.{one_more}
use Rattle.wi_graph.proofs.staging.add_pairs.Goals as goal

pub loop-area-preserved : goal.loop-area-preserved
loop-area-preserved c = (
  ap (λ n. n + 1) c.loop-area.invariant.0,
  one_more c.args.cell c.args.areas.now c.loop-area.area-index c.area-item.result c.args.readers.now c.loop-area.readers c.add.new.self c.loop-area-test.true c.area-item.is c.in-Ok.ensures.ok c.loop-area.invariant.1,
)
