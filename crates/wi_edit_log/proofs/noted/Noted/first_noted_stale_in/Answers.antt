use Rattle.wi_edit_log.proofs.Words.{◌∙◌, Some, sym, arith, fewer_places, within_between, is_noted_stale_of}
use Rattle.wi_edit_log.proofs.Next.{next_is, searched_found, searched_none, searched_on, searched_start}
use Rattle.wi_edit_log.proofs.noted.Noted.first_noted_stale_in.Goals as goal

pub loop-ahead-init : goal.loop-ahead-init
loop-ahead-init c = searched_start c.args.area (is_noted_stale_of c.args.self.now.notes.entries c.args.session c.args.since) (Some c.first_cell.result) c.first_cell.ensures

pub returns-then-is_noted_stale : goal.returns-then-is_noted_stale
returns-then-is_noted_stale c =
    searched_found c.args.area (is_noted_stale_of c.args.self.now.notes.entries c.args.session c.args.since) c.in-Some.at
    (rw c.in-Some.is at c.loop-ahead.invariant) (sym c.is_noted_stale.ensures ∙ c.if-is_noted_stale.true)

pub cell_after-ahead-requires : goal.cell_after-ahead-requires
cell_after-ahead-requires c = (within_between c.args.area c.in-Some.at (rw c.in-Some.is at c.loop-ahead.invariant).within).1

pub loop-ahead-smaller : goal.loop-ahead-smaller
loop-ahead-smaller c =
    rw c.in-Some.is (fewer_places c.args.area c.in-Some.at c.in-Some.at c.cell_after-ahead.result (omega arith) (within_between c.args.area c.in-Some.at (rw c.in-Some.is at c.loop-ahead.invariant).within).1 c.cell_after-ahead.ensures.after)

pub loop-ahead-preserved : goal.loop-ahead-preserved
loop-ahead-preserved c =
    searched_on c.args.area (is_noted_stale_of c.args.self.now.notes.entries c.args.session c.args.since) c.in-Some.at c.cell_after-ahead.result
    (rw c.in-Some.is at c.loop-ahead.invariant) (sym c.is_noted_stale.ensures ∙ c.if-is_noted_stale.false) (next_is c.args.area c.in-Some.at c.cell_after-ahead.result c.cell_after-ahead.ensures.after c.cell_after-ahead.ensures.within c.cell_after-ahead.ensures.first)

pub returns : goal.returns
returns c =
    searched_none c.args.area (is_noted_stale_of c.args.self.now.notes.entries c.args.session c.args.since) (rw c.in_default.is at c.loop-ahead.invariant)
