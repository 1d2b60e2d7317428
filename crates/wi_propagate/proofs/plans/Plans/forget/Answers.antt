use Rattle.wi_propagate.proofs.Words.{rules}
use Rattle.wi_propagate.proofs.plans.Plans.forget.Goals as goal

pub returns-then-has_nothing : goal.returns-then-has_nothing
returns-then-has_nothing c = c.has_nothing.ensures c.if-has_nothing.true

pub returns : goal.returns
returns c = search rules
