use Rattle.wi_graph.proofs.Words.{Some, ◌∙◌, sym, fewer_places}
use Rattle.wi_graph.proofs.WithinSteps.{none_ahead, seek_start, seek_first, seek_none, seek_found, seek_on}
use Rattle.wi_graph.proofs.within.next_in_part.Goals as goal

pub loop-ahead-init : goal.loop-ahead-init
loop-ahead-init g c = seek_start (g.C.FindsFirst.cells c.args.cells.now) c.args.area c.args.from

pub returns-in_err-cell-clause-found : goal.returns-in_err-cell-clause-found
returns-in_err-cell-clause-found g c = none_ahead (g.C.FindsFirst.cells c.args.cells.now) c.args.area c.args.from c.from_residual.result c.from_residual.ensures

pub returns-in_err-cell-clause-first : goal.returns-in_err-cell-clause-first
returns-in_err-cell-clause-first g c =
    seek_none (g.C.FindsFirst.cells c.args.cells.now) c.args.area c.args.from c.in-Some.start c.last.result c.from_residual.result c.last.ensures (rw c.in-Some.is at c.loop-ahead.invariant) c.in_err-cell.ensures.first

pub returns-then-contains-clause-found : goal.returns-then-contains-clause-found
returns-then-contains-clause-found g c =
    seek_found (g.C.FindsFirst.cells c.args.cells.now) c.args.area c.args.from c.in-Some.start c.in_ok-cell.cell (rw c.in-Some.is at c.loop-ahead.invariant) (rw c.last.ensures at c.in_ok-cell.ensures.found) (sym c.contains.ensures ∙ c.if-contains.true)

pub returns-then-contains-clause-first : goal.returns-then-contains-clause-first
returns-then-contains-clause-first g c =
    seek_first (g.C.FindsFirst.cells c.args.cells.now) c.args.area c.args.from c.in-Some.start (Some c.in_ok-cell.cell) (rw c.in-Some.is at c.loop-ahead.invariant) (rw c.last.ensures at c.in_ok-cell.ensures.first)

pub cell_after-ahead-requires : goal.cell_after-ahead-requires
cell_after-ahead-requires g c = (rw c.last.ensures at c.in_ok-cell.ensures.found).1

pub loop-ahead-smaller : goal.loop-ahead-smaller
loop-ahead-smaller g c =
    let between = rw c.last.ensures at c.in_ok-cell.ensures.found in
    rw c.in-Some.is (fewer_places c.args.area c.in-Some.start c.in_ok-cell.cell c.cell_after-ahead.result between.0 between.1 c.cell_after-ahead.ensures.after)

pub loop-ahead-preserved : goal.loop-ahead-preserved
loop-ahead-preserved g c =
    let between = rw c.last.ensures at c.in_ok-cell.ensures.found in
    let first = rw c.last.ensures at c.in_ok-cell.ensures.first in
    seek_on (g.C.FindsFirst.cells c.args.cells.now) c.args.area c.args.from c.in-Some.start c.in_ok-cell.cell c.cell_after-ahead.result (rw c.in-Some.is at c.loop-ahead.invariant) between first (sym c.contains.ensures ∙ c.if-contains.false)
    c.cell_after-ahead.ensures.after c.cell_after-ahead.ensures.first

pub returns-clause-first : goal.returns-clause-first
returns-clause-first g c = (rw c.in_default.is at c.loop-ahead.invariant).0
