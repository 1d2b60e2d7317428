use Rattle.wi_graph.proofs.Words.{rules}
use Rattle.wi_graph.proofs.BeyondSteps.{asking_start, asking_step, asking_ends, beyond_end}
use Rattle.wi_graph.proofs.beyond.cone_beyond.Goals as goal

pub cells-init : goal.cells-init
cells-init g c =
    asking_start c.args.readers.now (g.W.Watch.watched c.args.watch.now) c.args.cells.now c.new-found.result c.enqueue.new.found c.new-work.result.items c.enqueue.new.work.items c.search-search.result
    c.search-search.ensures c.new-found.ensures c.new-work.ensures.items c.requires c.in_ok-enqueue.ensures

pub cells-smaller : goal.cells-smaller
cells-smaller g c =
    asking_ends c.args.readers.now (g.W.Watch.watched c.args.watch.now) c.cells.found c.enqueue_beyond.new.found c.cells.work.items c.pop.new.self.items c.enqueue_beyond.new.work.items c.in_ok-next.next.items c.deref.result.now
    c.in-Some.cell c.cells.search c.readers_of.new.self c.in-Some.ensures.items c.in_ok-next.ensures c.cells.invariant.1 c.deref.ensures.value c.in_ok-enqueue_beyond.ensures

pub cells-preserved : goal.cells-preserved
cells-preserved g c =
    asking_step c.args.readers.now (g.W.Watch.watched c.args.watch.now) c.args.cells.now c.cells.found c.enqueue_beyond.new.found c.cells.work.items c.pop.new.self.items c.enqueue_beyond.new.work.items c.in_ok-next.next.items c.deref.result.now
    c.in-Some.cell c.cells.search c.readers_of.new.self c.in-Some.ensures.items c.in_ok-next.ensures c.deref.ensures.value c.in_ok-enqueue_beyond.ensures c.cells.invariant

pub returns : goal.returns
returns g c = beyond_end c.args.readers.now (g.W.Watch.watched c.args.watch.now) c.args.cells.now c.cells.found c.cells.work.items (search rules) c.cells.invariant.0
