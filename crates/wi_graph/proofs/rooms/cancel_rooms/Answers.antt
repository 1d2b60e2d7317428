use Rattle.wi_graph.proofs.Words.{◌≡◌, [], rules, arith, common_steps}
use Rattle.wi_graph.proofs.RoomSteps.{reads_same, cancelling_step, cancelling_end}
use Rattle.wi_graph.proofs.rooms.cancel_rooms.Goals as goal

pub cells-preserved-in-Some : goal.cells-preserved-in-Some
cells-preserved-in-Some c =
    cancelling_step c.args.rooms.now c.cells.next.items c.pop.new.self.items c.cells.rooms c.sweep_one.new.rooms c.cells.readers c.remove_room.new.readers c.in-Some.entry.0 c.in-Some.entry.1 c.in-Some.ensures.items (search rules)
    c.sweep_one.ensures.order (reads_same c.cells.rooms c.sweep_one.new.rooms c.sweep_one.ensures.same) c.cells.invariant

pub cells-preserved-in-Some-2 : goal.cells-preserved-in-Some-2
cells-preserved-in-Some-2 c =
    cancelling_step c.args.rooms.now c.cells.next.items c.pop.new.self.items c.cells.rooms c.sweep_one.new.rooms c.cells.readers c.remove_room.new.readers c.in-Some.entry.0 c.in-Some.entry.1 c.in-Some.ensures.items (search rules)
    c.sweep_one.ensures.order (reads_same c.cells.rooms c.sweep_one.new.rooms c.sweep_one.ensures.same) c.cells.invariant

pub cells-preserved : goal.cells-preserved
cells-preserved c =
    cancelling_step c.args.rooms.now c.cells.next.items c.pop.new.self.items c.cells.rooms c.sweep_one.new.rooms c.cells.readers c.remove_room.new.readers c.in-Some.entry.0 c.in-Some.entry.1 c.in-Some.ensures.items (search rules)
    c.sweep_one.ensures.order (reads_same c.cells.rooms c.sweep_one.new.rooms c.sweep_one.ensures.same) c.cells.invariant

pub returns-clause-pairs : goal.returns-clause-pairs
returns-clause-pairs c =
    let none : c.cells.next.items ≡ [] = grind (arith, common_steps) in
    cancelling_end c.args.rooms.now c.cells.next.items c.cells.rooms c.cells.readers none c.cells.invariant
