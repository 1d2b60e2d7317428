use Rattle.wi_graph.proofs.Words.{rules, items_of, areas_of, is_passed}
use Rattle.wi_graph.proofs.BeyondSteps.{search_start, search_step, search_end, search_ends}
use Rattle.wi_graph.proofs.BelowSteps.{below_end}
use Rattle.wi_graph.proofs.sides.both_sides.Goals as goal

pub cells-init : goal.cells-init
cells-init c = (
  search_start c.args.readers.now c.args.cells.now c.new-found.result c.enqueue.new.found c.new-work.result.items c.enqueue.new.work.items c.new-found.ensures c.new-work.ensures.items c.in_ok-enqueue.ensures,
  λ known s. c.in_ok-below.ensures known s,
)

pub cells-smaller : goal.cells-smaller
cells-smaller c =
    search_ends c.args.readers.now c.cells.found c.enqueue-in-Some.new.found c.cells.work.items c.pop.new.self.items c.enqueue-in-Some.new.work.items c.in_ok-next.next.items c.deref.result.now c.in-Some.cell c.in-Some.ensures.items
    c.in_ok-next.ensures.readers c.deref.ensures.value c.in_ok-enqueue-2.ensures

pub cells-preserved : goal.cells-preserved
cells-preserved c = (
  search_step c.args.readers.now c.args.cells.now c.cells.found c.enqueue-in-Some.new.found c.cells.work.items c.pop.new.self.items _ c.in_ok-next.next.items c.deref.result.now c.in-Some.cell c.in-Some.ensures.items
      c.in_ok-next.ensures.readers c.deref.ensures.value c.in_ok-enqueue-2.ensures c.cells.invariant.0,
  λ known s. c.in_ok-go_below.ensures.below (areas_of (items_of c.args.entry.now.1)) known (c.cells.invariant.1 known s),
)

pub returns-then-is_clear-clause-apart : goal.returns-then-is_clear-clause-apart
returns-then-is_clear-clause-apart c =
    let on = c.go_below.new.below in
    let known = c.requires.open_now.0 in
    below_end c.args.rooms.now c.args.entry.now.0 (areas_of (items_of c.args.entry.now.1)) (is_passed on.visited known) on.ahead.items (c.is_clear.ensures.done (search rules))
    (c.in_ok-go_below.ensures.below (areas_of (items_of c.args.entry.now.1)) known (c.cells.invariant.1 known c.requires.open_now.1) (c.is_clear.ensures.clear (search rules)))

pub returns-clause-cone : goal.returns-clause-cone
returns-clause-cone c = search_end c.args.readers.now c.args.cells.now c.cells.found c.cells.work.items (search rules) c.cells.invariant.0

pub returns-clause-apart : goal.returns-clause-apart
returns-clause-apart c = tt
