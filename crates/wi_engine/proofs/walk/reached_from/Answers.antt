use Rattle.wi_engine.proofs.Words.{◌≡◌, ◌+◌, [], List, ℕ, length, drop, suc, sym, ap, subst, arith, drop_all, IsWalk, enters}
use Rattle.wi_engine.proofs.walk.WalkSteps.{walk-begun, walk-ended, walk-roots}
use Rattle.wi_engine.proofs.walk.PathSteps.{root-cycle, root-walked}
use Rattle.wi_engine.proofs.walk.reached_from.Goals as goal

pub loop-cell-init : goal.loop-cell-init
loop-cell-init c = (rw c.new-3.ensures.items (walk-begun c.args.store.now.sheet c.args.cells.now c.new-2.result c.new-2.ensures.empty), c.new.ensures.items)

pub loop-cell-preserved : goal.loop-cell-preserved
loop-cell-preserved c =
    let s = c.args.store.now.sheet in
    let cells = c.args.cells.now in
    let i = c.loop-cell.cell-index in
    let walk = rw c.if-branch.false at c.in_ok-meets_cycle.ensures.walk in
    let path = rw c.if-branch.false at c.in_ok-meets_cycle.ensures.path in
    let one : suc i ≡ i + 1 = omega arith in
    (subst (λ (n : ℕ). IsWalk s cells (enters (drop n cells)) c.meets_cycle.new.self.progress c.meets_cycle.new.self.order.items) one (root-walked s cells i c.cell-item.result c.loop-cell.walk.progress c.meets_cycle.new.self.progress c.loop-cell.walk.order.items c.meets_cycle.new.self.order.items c.loop-cell-test.true c.cell-item.is c.loop-cell.invariant.0 walk), path)

pub returns-then-branch-clause-circular : goal.returns-then-branch-clause-circular
returns-then-branch-clause-circular c =
    let cycle = rw c.if-branch.true at c.in_ok-meets_cycle.ensures.cycle in
    sym (root-cycle c.args.store.now.sheet c.args.cells.now c.loop-cell.cell-index c.cell-item.result c.loop-cell.walk.progress c.loop-cell.walk.order.items c.loop-cell-test.true c.cell-item.is c.loop-cell.invariant.0 cycle)

pub returns-clause-circular : goal.returns-clause-circular
returns-clause-circular c =
    let s = c.args.store.now.sheet in
    let cells = c.args.cells.now in
    let none : drop c.loop-cell.cell-index cells ≡ [] = drop_all c.loop-cell.cell-index cells (omega (arith, c.loop-cell-test.false)) in
    sym (walk-ended s cells (enters (drop c.loop-cell.cell-index cells)) c.loop-cell.walk.progress c.loop-cell.walk.order.items c.loop-cell.invariant.0 (ap (λ (xs : List ℕ). length (enters xs)) none))

pub returns-clause-roots : goal.returns-clause-roots
returns-clause-roots c =
    let cells = c.args.cells.now in
    let none : drop c.loop-cell.cell-index cells ≡ [] = drop_all c.loop-cell.cell-index cells (omega (arith, c.loop-cell-test.false)) in
    walk-roots c.args.store.now.sheet cells (enters (drop c.loop-cell.cell-index cells)) c.loop-cell.walk.progress c.loop-cell.walk.order.items c.loop-cell.invariant.0 (ap (λ (xs : List ℕ). length (enters xs)) none)
