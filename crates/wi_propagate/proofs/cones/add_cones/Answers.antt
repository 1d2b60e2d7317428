use Rattle.wi_propagate.proofs.Words.{◌≡◌, ◌∙◌, true, subst, take, arith, list_all, common_steps, Replacement, is_known}
use Rattle.wi_propagate.proofs.ReplacedCones.{all_known_more}
use Rattle.wi_propagate.proofs.cones.add_cones.Goals as goal

pub loop-replacement-preserved : goal.loop-replacement-preserved
loop-replacement-preserved c =
    let e = c.in_ok-add_cone.ensures in
    record {
      cones = λ s edges h. e.cones s edges (c.loop-replacement.invariant.cones s edges h);
      all = all_known_more c.loop-replacement.cones c.add_cone.new.cones c.replacements-replacement-items.result.now c.loop-replacement.replacement-index c.replacement-item.result c.loop-replacement-test.true c.replacement-item.is c.loop-replacement.invariant.all e.stay e.there;
    }

pub returns-clause-all : goal.returns-clause-all
returns-clause-all c =
    let whole : take c.loop-replacement.replacement-index c.replacements-replacement-items.result.now ≡ c.replacements-replacement-items.result.now = grind (arith, common_steps) in
    subst (λ w. list_all (λ (r : Replacement). is_known c.loop-replacement.cones r.at) w ≡ true) (whole ∙ c.replacements-replacement-items.ensures.value) c.loop-replacement.invariant.all
