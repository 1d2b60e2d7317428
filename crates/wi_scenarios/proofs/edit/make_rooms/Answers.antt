use Rattle.wi_scenarios.proofs.Words.{on_ok_weaker}
use Rattle.wi_scenarios.proofs.EditLemmas.{rooms_made}
use Rattle.wi_scenarios.proofs.edit.make_rooms.Goals as goal

pub returns-clause-rooms : goal.returns-clause-rooms
returns-clause-rooms c =
    on_ok_weaker c.make_room_all.result
    (λ room. rooms_made c.args.cells.now c.args.sessions.now c.make_room_all.new.self c.requires c.make_room_all.ensures.sessions c.make_room_all.ensures.pending room)
    c.make_room_all.ensures.room
