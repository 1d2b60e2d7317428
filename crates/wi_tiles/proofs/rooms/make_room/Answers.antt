use Rattle.wi_tiles.proofs.MapSteps.{order-with_new}
use Rattle.wi_tiles.proofs.RoomLemmas.{made_same, made_vacant, made_kept, made_room}
use Rattle.wi_tiles.proofs.rooms.make_room.Goals as goal

pub returns-in_ok-put_new-clause-same : goal.returns-in_ok-put_new-clause-same
returns-in_ok-put_new-clause-same g c =
    made_same g.V.MayBeVacant.vacant c.args.at c.vacant.result c.args.rooms.now.entries c.put_new.new.self.entries c.in_ok-put_new.ensures.entries c.vacant.ensures

pub returns-in_ok-put_new-clause-order : goal.returns-in_ok-put_new-clause-order
returns-in_ok-put_new-clause-order g c =
    λ order. order-with_new c.args.rooms.now.entries c.put_new.new.self.entries c.args.at c.vacant.result c.in_ok-put_new.ensures.entries order

pub returns-in_ok-put_new-clause-vacant : goal.returns-in_ok-put_new-clause-vacant
returns-in_ok-put_new-clause-vacant g c =
    made_vacant g.V.MayBeVacant.vacant c.args.at c.vacant.result c.args.rooms.now.entries c.put_new.new.self.entries c.in_ok-put_new.ensures.entries c.vacant.ensures

pub returns-in_ok-put_new-clause-kept : goal.returns-in_ok-put_new-clause-kept
returns-in_ok-put_new-clause-kept g c =
    made_kept g.V.MayBeVacant.vacant c.args.at c.vacant.result c.args.rooms.now.entries c.put_new.new.self.entries c.in_ok-put_new.ensures.entries c.vacant.ensures

pub returns-in_ok-put_new-clause-room : goal.returns-in_ok-put_new-clause-room
returns-in_ok-put_new-clause-room g c =
    made_room g.V.MayBeVacant.vacant c.args.at c.vacant.result c.args.rooms.now.entries c.put_new.new.self.entries c.in_ok-put_new.ensures.entries c.vacant.ensures c.args.new.now
