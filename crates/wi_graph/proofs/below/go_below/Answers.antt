use Rattle.wi_graph.proofs.below.go_below.Goals as goal

pub loop-init : goal.loop-init
loop-init c = (λ areas known h. h, λ known s h. h)

pub loop-preserved : goal.loop-preserved
loop-preserved c = (λ areas known h. c.in_ok-step_below.ensures.below areas known (c.loop.invariant.0 areas known h), λ known s h. c.in_ok-step_below.ensures.finding known s (c.loop.invariant.1 known s h))

pub returns-clause-below : goal.returns-clause-below
returns-clause-below c = c.loop.invariant.0

pub returns-clause-finding : goal.returns-clause-finding
returns-clause-finding c = c.loop.invariant.1
