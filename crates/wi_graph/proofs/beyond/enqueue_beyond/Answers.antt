use Rattle.wi_graph.proofs.Words.{ℕ, List, subst, arith, AreEnqueued, beyond}
use Rattle.std.proofs.lemmas.List.{take_all}
use Rattle.wi_graph.proofs.SearchSteps.{enqueued_none}
use Rattle.wi_graph.proofs.BeyondSteps.{beyond_more}
use Rattle.wi_graph.proofs.beyond.enqueue_beyond.Goals as goal

pub loop-cell-init : goal.loop-cell-init
loop-cell-init g c = enqueued_none c.args.found.now c.args.work.now.items

pub loop-cell-preserved : goal.loop-cell-preserved
loop-cell-preserved g c =
    beyond_more (g.W.Watch.watched c.args.watch.now) c.args.cells.now c.loop-cell.cell-index c.cell-item.result c.args.found.now c.loop-cell.found c.enqueue_unwatched.new.found c.args.work.now.items c.loop-cell.work.items c.enqueue_unwatched.new.work.items c.loop-cell-test.true c.cell-item.is
    c.loop-cell.invariant c.in_ok-enqueue_unwatched.ensures

pub returns : goal.returns
returns g c =
    subst (λ (xs : List ℕ). AreEnqueued (beyond (g.W.Watch.watched c.args.watch.now) xs) c.args.found.now c.loop-cell.found c.args.work.now.items c.loop-cell.work.items) (take_all c.loop-cell.cell-index c.args.cells.now (omega (arith, c.loop-cell-test.false))) c.loop-cell.invariant
