use Rattle.wi_graph.proofs.Words.{◌∙◌, sym, within_between}
use Rattle.wi_graph.proofs.PinnedSteps.{searched_start, searched_on, searched_found, searched_none, fewer_cyclic}
use Rattle.wi_graph.proofs.pinned.has_cyclic_outside.Goals as goal

pub loop-ahead-init : goal.loop-ahead-init
loop-ahead-init c =
    searched_start c.args.cyclic.now c.args.cells.now c.args.area c.next_within-ahead.result (rw c.first.ensures at c.next_within-ahead.ensures.found) (rw c.first.ensures at c.next_within-ahead.ensures.first)

pub returns-then-not-contains : goal.returns-then-not-contains
returns-then-not-contains c =
    sym (searched_found c.args.cyclic.now c.args.cells.now c.args.area c.in-Some.cyclic_cell (sym c.contains.ensures ∙ c.if-not-contains.true) (rw c.in-Some.is at c.loop-ahead.invariant))

pub next_after-ahead-requires : goal.next_after-ahead-requires
next_after-ahead-requires c = (within_between c.args.area c.in-Some.cyclic_cell (rw c.in-Some.is at c.loop-ahead.invariant).1.0).1

pub loop-ahead-smaller : goal.loop-ahead-smaller
loop-ahead-smaller c =
    rw c.in-Some.is (fewer_cyclic c.args.cyclic.now c.args.area c.in-Some.cyclic_cell c.next_after-ahead.result (rw c.in-Some.is at c.loop-ahead.invariant).1.0 c.next_after-ahead.ensures.found)

pub loop-ahead-preserved : goal.loop-ahead-preserved
loop-ahead-preserved c =
    searched_on c.args.cyclic.now c.args.cells.now c.args.area c.in-Some.cyclic_cell c.next_after-ahead.result (sym c.contains.ensures ∙ c.if-not-contains.false) c.next_after-ahead.ensures.found c.next_after-ahead.ensures.first
    (rw c.in-Some.is at c.loop-ahead.invariant)

pub returns : goal.returns
returns c = sym (searched_none c.args.cyclic.now c.args.cells.now c.args.area (rw c.in_default.is at c.loop-ahead.invariant))
