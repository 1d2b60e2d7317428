use Rattle.wi_graph.proofs.Words.{◌∙◌}
use Rattle.wi_graph.proofs.RoomSteps.{reads_same}
use Rattle.wi_graph.proofs.staging.bring_one.Goals as goal

pub returns-in_err-make_room-clause-rooms : goal.returns-in_err-make_room-clause-rooms
returns-in_err-make_room-clause-rooms c = reads_same c.args.rooms.now c.make_room.new.rooms c.make_room.ensures.same

pub returns-in-Ok-clause-rooms : goal.returns-in-Ok-clause-rooms
returns-in-Ok-clause-rooms c = reads_same c.args.rooms.now c.make_room.new.rooms c.make_room.ensures.same

pub returns-in-Err-clause-rooms : goal.returns-in-Err-clause-rooms
returns-in-Err-clause-rooms c = reads_same c.args.rooms.now c.sweep_one.new.rooms (λ q. c.sweep_one.ensures.same q ∙ c.make_room.ensures.same q)
