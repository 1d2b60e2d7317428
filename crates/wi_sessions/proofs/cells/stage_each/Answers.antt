use Rattle.wi_sessions.proofs.Words.{arith, take, is_one_of}
use Rattle.wi_sessions.proofs.WordLemmas.{made_all, made_more, made_rooms, nothing_made, some_rooms}
use Rattle.wi_sessions.proofs.cells.stage_each.Goals as goal

pub loop-at-init : goal.loop-at-init
loop-at-init c = record { order = c.requires; made = nothing_made c.args.words.now.entries c.args.staged.now.items c.args.bits }

pub loop-at-preserved : goal.loop-at-preserved
loop-at-preserved c = record {
  order = c.stage_one.ensures.order;
  made = made_more c.args.cells.now c.loop-at.at-index c.at-item.result c.args.bits c.args.words.now.entries c.args.staged.now.items c.loop-at.words.entries c.loop-at.staged.items
      c.stage_one.new.words.entries c.stage_one.new.staged.items (omega arith) c.at-item.is c.loop-at.invariant.made c.in_ok-stage_one.ensures.rooms.room;
}

pub returns-in_err-stage_one-clause-rooms : goal.returns-in_err-stage_one-clause-rooms
returns-in_err-stage_one-clause-rooms c =
    some_rooms (is_one_of (take c.loop-at.at-index c.args.cells.now)) c.from_residual.result c.from_residual.ensures.0 c.loop-at.invariant.made c.in_err-stage_one.ensures.rooms

pub returns-clause-order : goal.returns-clause-order
returns-clause-order c = c.loop-at.invariant.order

pub returns-clause-rooms : goal.returns-clause-rooms
returns-clause-rooms c =
    made_rooms (is_one_of c.args.cells.now) c.args.bits c.args.words.now.entries c.args.staged.now.items c.loop-at.words.entries c.loop-at.staged.items
    (made_all c.args.cells.now c.loop-at.at-index c.args.bits c.args.words.now.entries c.args.staged.now.items c.loop-at.words.entries c.loop-at.staged.items (omega arith) c.loop-at.invariant.made)
