use Rattle.wi_engine.proofs.Words.{◌∙◌, arith, common_steps}
use Rattle.wi_engine.proofs.walk.Cursors.{next_rectangle}
use Rattle.wi_engine.proofs.walk.Visit.next.Goals as goal

pub loop-area-preserved : goal.loop-area-preserved
loop-area-preserved c =
    next_rectangle c.args.store.now.sheet c.rectangles-rectangles.result.now c.loop-area.rectangle c.in-Some.area.now c.loop-area.after c.in-Some.ensures.lookup.3.0 c.in-Some.ensures.lookup.1 c.in_default-next_within.ensures.none ∙ c.loop-area.invariant

pub returns-in-Some-next_within-clause-some : goal.returns-in-Some-next_within-clause-some
returns-in-Some-next_within-clause-some c = grind (arith, common_steps)

pub returns-clause-none : goal.returns-clause-none
returns-clause-none c = grind (arith, common_steps)
