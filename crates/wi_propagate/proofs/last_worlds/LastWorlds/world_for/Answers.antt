use Rattle.wi_propagate.proofs.Words.{◌∙◌, IfOk-weaker, put_alone}
use Rattle.wi_propagate.proofs.last_worlds.LastWorlds.world_for.Goals as goal

pub returns-then-has_exactly : goal.returns-then-has_exactly
returns-then-has_exactly c = IfOk-weaker c.copy.result _ _ (λ w h. h ∙ c.has_exactly.ensures.0 c.if-has_exactly.true) c.copy.ensures

pub returns-then-has_exactly-2 : goal.returns-then-has_exactly-2
returns-then-has_exactly-2 c = IfOk-weaker c.copy-then-has_exactly-2.result _ _ (λ w h. h ∙ c.has_exactly-2.ensures.0 c.if-has_exactly-2.true) c.copy-then-has_exactly-2.ensures

pub returns : goal.returns
returns c = IfOk-weaker c.with-2.result _ _ (λ w h. put_alone w c.new.result c.args.replacements.now c.requires c.new.ensures h) c.with-2.ensures.list
