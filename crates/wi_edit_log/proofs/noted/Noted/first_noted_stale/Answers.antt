use Rattle.wi_edit_log.proofs.Words.{arith, is_noted_stale_of}
use Rattle.wi_edit_log.proofs.Shared.{of_all, of_none, of_one_more}
use Rattle.wi_edit_log.proofs.noted.Noted.first_noted_stale.Goals as goal

pub loop-area-init : goal.loop-area-init
loop-area-init c = of_none (is_noted_stale_of c.args.self.now.notes.entries c.args.session c.args.since)

pub loop-area-preserved : goal.loop-area-preserved
loop-area-preserved c =
    of_one_more (is_noted_stale_of c.args.self.now.notes.entries c.args.session c.args.since) c.args.wanted.now c.loop-area.area-index c.area-item.result
    c.loop-area.first c.first_noted_stale_in.result c.sooner-first.result
    (omega arith) c.area-item.is c.sooner-first.ensures c.loop-area.invariant c.first_noted_stale_in.ensures

pub returns : goal.returns
returns c =
    of_all (is_noted_stale_of c.args.self.now.notes.entries c.args.session c.args.since) c.args.wanted.now c.loop-area.area-index c.loop-area.first (omega arith) c.loop-area.invariant
