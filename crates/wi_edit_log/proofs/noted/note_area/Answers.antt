use Rattle.wi_edit_log.proofs.Words.{Some, arith, fewer_places, within_between}
use Rattle.wi_edit_log.proofs.Next.{next_is}
use Rattle.wi_edit_log.proofs.Noting.{noting_done, noting_on, noting_start}
use Rattle.wi_edit_log.proofs.noted.note_area.Goals as goal

pub loop-ahead-init : goal.loop-ahead-init
loop-ahead-init c = noting_start c.args.area c.args.session c.args.count c.args.notes.now.entries (Some c.first_cell.result) c.first_cell.ensures

pub cell_after-ahead-requires : goal.cell_after-ahead-requires
cell_after-ahead-requires c = (within_between c.args.area c.in-Some.at (rw c.in-Some.is at c.loop-ahead.invariant).within).1

pub loop-ahead-smaller : goal.loop-ahead-smaller
loop-ahead-smaller c =
    rw c.in-Some.is (fewer_places c.args.area c.in-Some.at c.in-Some.at c.cell_after-ahead.result (omega arith) (within_between c.args.area c.in-Some.at (rw c.in-Some.is at c.loop-ahead.invariant).within).1 c.cell_after-ahead.ensures.after)

pub loop-ahead-preserved : goal.loop-ahead-preserved
loop-ahead-preserved c =
    noting_on c.args.area c.args.session c.args.count c.args.notes.now.entries c.loop-ahead.notes.entries c.note.new.notes.entries c.in-Some.at c.cell_after-ahead.result
    (rw c.in-Some.is at c.loop-ahead.invariant) c.in_ok-note.ensures (next_is c.args.area c.in-Some.at c.cell_after-ahead.result c.cell_after-ahead.ensures.after c.cell_after-ahead.ensures.within c.cell_after-ahead.ensures.first)

pub returns : goal.returns
returns c =
    noting_done c.args.area c.args.session c.args.count c.args.notes.now.entries c.loop-ahead.notes.entries (rw c.in_default.is at c.loop-ahead.invariant)
