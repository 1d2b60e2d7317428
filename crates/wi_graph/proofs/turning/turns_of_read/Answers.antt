use Rattle.wi_graph.proofs.Words.{keys_of}
use Rattle.wi_graph.proofs.TurningSteps.{cone_is}
use Rattle.wi_graph.proofs.ClosingSteps.{apart_turn, reach_turn}
use Rattle.wi_graph.proofs.turning.turns_of_read.Goals as goal

pub returns-then-stands_apart : goal.returns-then-stands_apart
returns-then-stands_apart c =
    apart_turn c.args.edit.now.rooms.now c.args.edit.now.next.now c.args.edit.now.cyclic.now c.args.edit.now.changes.now c.no_turns.result c.requires.graph.circular c.requires.brings (c.stands_apart.ensures c.if-stands_apart.true)
    c.no_turns.ensures.became c.no_turns.ensures.ceased

pub returns-in-None : goal.returns-in-None
returns-in-None c =
    reach_turn c.args.edit.now.rooms.now c.args.edit.now.next.now c.args.edit.now.cyclic.now c.args.edit.now.changes.now c.no_turns-in-None.result c.requires.graph.circular c.requires.brings (rw c.in-None.is at c.in_ok-cone.ensures.apart) c.no_turns-in-None.ensures.became c.no_turns-in-None.ensures.ceased

pub turns_in_cone-requires-clause-cyclic : goal.turns_in_cone-requires-clause-cyclic
turns_in_cone-requires-clause-cyclic c = c.requires.graph.circular

pub turns_in_cone-requires-clause-order : goal.turns_in_cone-requires-clause-order
turns_in_cone-requires-clause-order c =
    let k = rw c.in-Some.is at c.in_ok-cone.ensures.cone in
    rw c.deref.ensures.value k.order

pub turns_in_cone-requires-clause-cone : goal.turns_in_cone-requires-clause-cone
turns_in_cone-requires-clause-cone c =
    let k = rw c.in-Some.is at c.in_ok-cone.ensures.cone in
    record {
      order = c.requires.order;
      changes = c.args.edit.now.changes.now;
      brings = c.requires.brings;
      is_cone = λ s h d. rw c.deref.ensures.value (cone_is c.args.edit.now.rooms.now c.args.edit.now.readers.now (keys_of c.args.edit.now.changes.now) c.in-Some.cone.items c.requires.graph.ordered c.requires.graph.pairs k s h d);
    }
