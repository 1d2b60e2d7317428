use Rattle.wi_graph.proofs.Words.{rules}
use Rattle.wi_graph.proofs.StripSteps.{first_free, strip_start, strip_step, strip_end, strip_gone, loses_within}
use Rattle.wi_graph.proofs.stripping.strip.Goals as goal

pub cells-init : goal.cells-init
cells-init c = strip_start c.args.areas c.args.pinned.now c.args.rest.now _ _ (search c.in_ok-work.ensures) (search rules)

pub cells-preserved : goal.cells-preserved
cells-preserved c =
    let free = rw c.in-Some.is at c.in_ok-cell.ensures.some in
    let tracking = rw c.in-Some.is at c.in_ok-cell.ensures.tracking in
    strip_step c.args.areas c.cells.areas c.next_free.new.areas c.args.pinned.now c.args.rest.now c.cells.rest c.remove.new.self c.next_free.new.work.items c.wake.new.work.items c.next_free.new.waiting c.wake.new.waiting c.in-Some.cell
    c.remove.ensures.updates.0 c.in_ok-wake.ensures.woken c.wake.ensures.others free c.cells.invariant.kept c.in_ok-cell.ensures.kept tracking c.cells.invariant.within c.cells.invariant.stripped

pub returns-clause-left : goal.returns-clause-left
returns-clause-left c =
    let work = rw c.in_default.is at c.in_ok-cell.ensures.none in
    let tracking = rw c.in_default.is at c.in_ok-cell.ensures.tracking in
    strip_end c.args.areas c.cells.areas c.next_free.new.areas c.args.pinned.now c.cells.rest c.next_free.new.work.items c.next_free.new.waiting c.cells.invariant.kept c.in_ok-cell.ensures.kept tracking work

pub returns-in_err-wake-clause-within : goal.returns-in_err-wake-clause-within
returns-in_err-wake-clause-within c = loses_within c.cells.rest c.remove.new.self c.args.rest.now c.in-Some.cell c.remove.ensures.updates.0 c.cells.invariant.within

pub returns-in_err-wake-clause-gone : goal.returns-in_err-wake-clause-gone
returns-in_err-wake-clause-gone c =
    let free = rw c.in-Some.is at c.in_ok-cell.ensures.some in
    strip_gone c.args.areas c.args.pinned.now c.args.rest.now c.cells.rest c.remove.new.self c.in-Some.cell c.remove.ensures.updates.0 (first_free c.args.areas c.cells.areas c.args.pinned.now c.cells.rest c.in-Some.cell c.cells.invariant.kept free)
    c.cells.invariant.stripped
