use Rattle.wi_engine.proofs.Words.{◌≡◌, ◌∙◌, subst, take, arith, common_steps}
use Rattle.wi_engine.proofs.cone.ConeSteps.{HaveCones, have_more}
use Rattle.wi_engine.proofs.cone.add_cones.Goals as goal

pub loop-replacement-preserved : goal.loop-replacement-preserved
loop-replacement-preserved c =
    let e = c.in_ok-add_cone.ensures in
    record {
      cones = e.cones;
      all = have_more c.loop-replacement.cones c.add_cone.new.cones c.replacements-replacement-items.result.now c.loop-replacement.replacement-index c.replacement-item.result c.loop-replacement-test.true c.replacement-item.is c.loop-replacement.invariant.all e.stay e.there;
    }

pub returns-clause-all : goal.returns-clause-all
returns-clause-all c =
    let whole : take c.loop-replacement.replacement-index c.replacements-replacement-items.result.now ≡ c.replacements-replacement-items.result.now = grind (arith, common_steps) in
    subst (HaveCones c.loop-replacement.cones) (whole ∙ c.replacements-replacement-items.ensures.value) c.loop-replacement.invariant.all
