use Rattle.wi_engine.proofs.Words.{[], ◌∷◌, arith, Enter}
use Rattle.wi_engine.proofs.walk.PathSteps.{path-ended}
use Rattle.wi_engine.proofs.walk.Walk.meets_cycle.Goals as goal

pub loop-visit-init : goal.loop-visit-init
loop-visit-init c = rw c.requires at (rw c.if-branch.false at c.in_ok-enter.ensures.walk)

pub returns-then-branch-2-clause-cycle : goal.returns-then-branch-2-clause-cycle
returns-then-branch-2-clause-cycle c = λ roots front w.
    let cycle = rw c.if-branch-2.true at c.in_ok-go_on.ensures.cycle in
    cycle roots front (rw c.in-Some.ensures.items at (c.loop-visit.invariant roots front w))

pub loop-visit-preserved : goal.loop-visit-preserved
loop-visit-preserved c = λ roots front w.
    let walk = rw c.if-branch-2.false at c.in_ok-go_on.ensures.walk in
    walk roots front (rw c.in-Some.ensures.items at (c.loop-visit.invariant roots front w))

pub returns-clause-walk : goal.returns-clause-walk
returns-clause-walk c =
    let cases = rw c.in_default.is at c.pop.ensures.cases in
    path-ended c.args.store.now.sheet (Enter c.args.root ∷ []) c.args.self.now.progress c.loop-visit.self.progress c.args.self.now.order.items c.loop-visit.self.order.items c.loop-visit.self.path.items (omega (arith, c.loop-visit.self.path.ok, cases.0)) c.loop-visit.invariant
