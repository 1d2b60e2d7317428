use Rattle.wi_engine.proofs.Words.{put_there, left_there}
use Rattle.wi_engine.proofs.content_ref.replaced.Goals as goal

pub returns-clause-some : goal.returns-clause-some
returns-clause-some c = put_there c.args.world.now c.args.at c.replacement.result c.replacements.ensures.order c.replacement.ensures

pub returns-clause-none : goal.returns-clause-none
returns-clause-none c = left_there c.args.world.now c.args.at c.replacement.result c.replacements.ensures.order c.replacement.ensures
