use Rattle.wi_tiles.proofs.Words.{◌<◌, length, refl, ◌∙◌, arith, on_err, IfOk-at_ok, HasRoomFor}
use Rattle.wi_tiles.proofs.RoomLemmas.{made_taken}
use Rattle.wi_tiles.proofs.RoomChanges.{edit_begun, edit_more_made, room_more_made}
use Rattle.wi_tiles.proofs.rooms.make_rooms.Goals as goal

pub loop-at-init : goal.loop-at-init
loop-at-init g c = record {
  same = λ q. refl;
  edit = edit_begun g.V.MayBeVacant.vacant _ c.args.rooms.now.entries c.requires;
  room = λ k d l. absurd (omega arith);
}

pub returns-in_err-make_room-clause-occupied : goal.returns-in_err-make_room-clause-occupied
returns-in_err-make_room-clause-occupied g c =
    made_taken g.V.MayBeVacant.vacant g.V.MayBeVacant.is_taken g.met.V.MayBeVacant.tells c.args.rooms.now.entries c.make_room.new.rooms.entries
    c.requires (c.make_room.ensures.order c.loop-at.invariant.edit.order) (λ q. c.make_room.ensures.same q ∙ c.loop-at.invariant.same q)

pub returns-in_err-make_room-clause-edit : goal.returns-in_err-make_room-clause-edit
returns-in_err-make_room-clause-edit g c =
    on_err c.from_residual.result
    (edit_more_made g.V.MayBeVacant.vacant c.args.changes.now c.loop-at.at-index c.loop-at-item.result c.loop-at.rooms.entries c.make_room.new.rooms.entries
    (omega arith) c.loop-at-item.is c.make_room.ensures.order c.make_room.ensures.vacant c.loop-at.invariant.edit)

pub loop-at-preserved : goal.loop-at-preserved
loop-at-preserved g c =
    let below : c.loop-at.at-index < length c.args.changes.now = omega arith in
    record {
      same = λ q. c.make_room.ensures.same q ∙ c.loop-at.invariant.same q;
      edit = edit_more_made g.V.MayBeVacant.vacant c.args.changes.now c.loop-at.at-index c.loop-at-item.result c.loop-at.rooms.entries c.make_room.new.rooms.entries
          below c.loop-at-item.is c.make_room.ensures.order c.make_room.ensures.vacant c.loop-at.invariant.edit;
      room = room_more_made g.V.MayBeVacant.vacant c.args.changes.now c.loop-at.at-index c.loop-at-item.result c.loop-at.rooms.entries c.make_room.new.rooms.entries
          below c.loop-at-item.is c.make_room.ensures.kept
          (IfOk-at_ok (λ _. HasRoomFor g.V.MayBeVacant.vacant c.make_room.new.rooms.entries c.loop-at-item.result) c.in_ok-make_room.was c.make_room.ensures.room) c.loop-at.invariant.room;
    }

pub returns-clause-occupied : goal.returns-clause-occupied
returns-clause-occupied g c =
    made_taken g.V.MayBeVacant.vacant g.V.MayBeVacant.is_taken g.met.V.MayBeVacant.tells c.args.rooms.now.entries c.loop-at.rooms.entries
    c.requires c.loop-at.invariant.edit.order c.loop-at.invariant.same

pub returns-clause-ready : goal.returns-clause-ready
returns-clause-ready g c = record { edit = c.loop-at.invariant.edit; room = λ k d l. c.loop-at.invariant.room k d (omega arith) }
