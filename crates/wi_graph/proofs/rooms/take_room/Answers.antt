use Rattle.wi_graph.proofs.Words.{None, refl, nat_cmp, get}
use Rattle.wi_tiles.proofs.MapSteps.{found-removed, order-removed}
use Rattle.wi_graph.proofs.RoomSteps.{had_room, put_others, put_room}
use Rattle.wi_graph.proofs.rooms.take_room.Goals as goal

pub returns-clause-rooms : goal.returns-clause-rooms
returns-clause-rooms c =
    put_room c.args.rooms.now c.remove.new.self c.args.at None None refl
    (found-removed c.args.rooms.now.entries c.remove.new.self.entries c.args.at c.remove.ensures.entries c.requires)

pub returns-clause-ordered : goal.returns-clause-ordered
returns-clause-ordered c = order-removed c.args.rooms.now.entries c.remove.new.self.entries c.args.at c.remove.ensures.entries c.requires

pub returns-clause-others : goal.returns-clause-others
returns-clause-others c =
    put_others c.args.rooms.now c.remove.new.self c.args.at None
    (found-removed c.args.rooms.now.entries c.remove.new.self.entries c.args.at c.remove.ensures.entries c.requires)

pub returns-clause-stood : goal.returns-clause-stood
returns-clause-stood c = had_room (get nat_cmp c.args.rooms.now c.args.at) c.flatten.result c.remove.result c.remove.ensures.stood c.flatten.ensures
