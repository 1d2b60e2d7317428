use Rattle.wi_graph.proofs.Words.{◌≡◌, [], rules, ap, sym, ◌∙◌, arith, common_steps, in_room}
use Rattle.wi_graph.proofs.ComingSteps.{last_there}
use Rattle.wi_graph.proofs.RoomSteps.{taking_step, taking_end}
use Rattle.wi_graph.proofs.rooms.commit_rooms.Goals as goal

pub exchange-stood-requires-clause-room : goal.exchange-stood-requires-clause-room
exchange-stood-requires-clause-room c h =
    sym (ap in_room (last_there c.cells.next.items c.pop.new.self.items c.in-Some.entry.0 c.in-Some.entry.1 c.cells.invariant.order c.in-Some.ensures.items)) ∙ c.cells.invariant.has_rooms c.in-Some.entry.0 h

pub cells-preserved-in-Some : goal.cells-preserved-in-Some
cells-preserved-in-Some c =
    taking_step c.args.next.now.items c.args.rooms.now c.cells.next.items c.pop.new.self.items c.cells.rooms c.exchange-stood.new.rooms c.cells.readers c.remove_room.new.readers c.in-Some.entry.0 c.in-Some.entry.1 c.exchange-stood.result
    c.in-Some.ensures.items c.exchange-stood.ensures.ordered (search rules) c.exchange-stood.ensures.others c.exchange-stood.ensures.stood c.remove_room.ensures c.cells.invariant

pub cells-preserved-in-Some-2 : goal.cells-preserved-in-Some-2
cells-preserved-in-Some-2 c =
    taking_step c.args.next.now.items c.args.rooms.now c.cells.next.items c.pop.new.self.items c.cells.rooms c.exchange-stood.new.rooms c.cells.readers c.remove_room.new.readers c.in-Some.entry.0 c.in-Some.entry.1 c.exchange-stood.result
    c.in-Some.ensures.items c.exchange-stood.ensures.ordered (search rules) c.exchange-stood.ensures.others c.exchange-stood.ensures.stood c.remove_room.ensures c.cells.invariant

pub cells-preserved : goal.cells-preserved
cells-preserved c =
    taking_step c.args.next.now.items c.args.rooms.now c.cells.next.items c.pop.new.self.items c.cells.rooms c.exchange-stood.new.rooms c.cells.readers c.remove_room.new.readers c.in-Some.entry.0 c.in-Some.entry.1 c.exchange-stood.result
    c.in-Some.ensures.items c.exchange-stood.ensures.ordered (search rules) c.exchange-stood.ensures.others c.exchange-stood.ensures.stood c.remove_room.ensures c.cells.invariant

pub returns-clause-rooms : goal.returns-clause-rooms
returns-clause-rooms c =
    let none : c.cells.next.items ≡ [] = grind (arith, common_steps) in
    (taking_end c.args.next.now.items c.args.rooms.now c.cells.next.items c.cells.rooms c.cells.readers none c.cells.invariant).0

pub returns-clause-pairs : goal.returns-clause-pairs
returns-clause-pairs c =
    let none : c.cells.next.items ≡ [] = grind (arith, common_steps) in
    (taking_end c.args.next.now.items c.args.rooms.now c.cells.next.items c.cells.rooms c.cells.readers none c.cells.invariant).1
