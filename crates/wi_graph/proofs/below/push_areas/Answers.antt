use Rattle.wi_graph.proofs.Words.{arith, rules}
use Rattle.wi_graph.proofs.BelowSteps.{no_areas, areas_more, all_areas}
use Rattle.wi_graph.proofs.below.push_areas.Goals as goal

pub loop-area-init : goal.loop-area-init
loop-area-init c = no_areas c.args.cell c.args.ahead.now.items

pub loop-area-preserved : goal.loop-area-preserved
loop-area-preserved c =
    areas_more c.args.cell c.args.areas.now c.loop-area.area-index c.area-item.result c.contains.result c.args.ahead.now.items c.loop-area.ahead.items c.push.new.self.items c.loop-area-test.true c.area-item.is (search c.contains.ensures) (search rules) (search rules)
    c.loop-area.invariant

pub returns : goal.returns
returns c = λ t. all_areas c.args.cell c.args.areas.now c.loop-area.area-index c.args.ahead.now.items c.loop-area.ahead.items (omega (arith, c.loop-area-test.false)) c.loop-area.invariant
