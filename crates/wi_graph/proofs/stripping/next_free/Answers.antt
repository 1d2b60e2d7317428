use Rattle.wi_graph.proofs.Words.{◌∙◌, sym, Some, arith, common_steps}
use Rattle.wi_graph.proofs.StripSteps.{track_gone, track_kept, track_pop, track_park}
use Rattle.wi_graph.proofs.stripping.next_free.Goals as goal

pub cells-preserved : goal.cells-preserved
cells-preserved c =
    let pinned = c.args.pinned.now in
    let rest = c.args.rest.now in
    let work = c.pop.new.self.items in
    let areas = c.open_read.new.areas in
    let kept = c.in_ok-open_read.ensures.kept in
    let read = rw c.in-Some-2.is at c.in_ok-open_read.ensures.read in
    let there = rw c.in-Some-2.is at c.in_ok-open_read.ensures.there in
    let popped = track_pop c.cells.areas pinned rest c.cells.work.items work c.cells.waiting c.in-Some.cell c.in-Some.ensures.items c.cells.invariant.1 in
    let tracked = track_kept c.cells.areas areas pinned rest work c.cells.waiting (Some c.in-Some.cell) kept popped.0 in (
      λ d e h. kept d e h ∙ c.cells.invariant.0 d e h,
      track_park areas pinned rest work c.cells.waiting c.park.new.waiting c.in-Some.cell c.in-Some-2.read c.in_ok-park-in-Some-2.ensures (kept c.in-Some.cell c.in-Some-2.read there ∙ read) there popped.1 tracked,
    )

pub cells-preserved-then-not-contains : goal.cells-preserved-then-not-contains
cells-preserved-then-not-contains c =
    let pinned = c.args.pinned.now in
    let rest = c.args.rest.now in
    let work = c.pop.new.self.items in
    let popped = track_pop c.cells.areas pinned rest c.cells.work.items work c.cells.waiting c.in-Some.cell c.in-Some.ensures.items c.cells.invariant.1 in
    (c.cells.invariant.0, track_gone c.cells.areas pinned rest work c.cells.waiting c.in-Some.cell (sym c.contains.ensures ∙ c.if-not-contains.true) popped.0)

pub returns-in-None-clause-tracking : goal.returns-in-None-clause-tracking
returns-in-None-clause-tracking c = grind (arith, common_steps)

pub returns-in-None-clause-some : goal.returns-in-None-clause-some
returns-in-None-clause-some c = grind (arith, common_steps)
