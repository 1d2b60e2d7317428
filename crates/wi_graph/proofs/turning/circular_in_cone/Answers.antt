use Rattle.wi_graph.proofs.Words.{refl}
use Rattle.wi_graph.proofs.TurningSteps.{found_cyclic, rest_within}
use Rattle.wi_graph.proofs.turning.circular_in_cone.Goals as goal

pub returns-clause-within : goal.returns-clause-within
returns-clause-within c =
    rest_within c.args.cone.now c.in_ok-rest.rest c.strip.new.rest c.in_ok-list.list.items (rw c.set.ensures at c.in_ok-list.ensures.items) (rw c.deref-2.ensures.value at c.in_ok-rest.ensures) c.strip.ensures.within

pub returns-clause-found_cyclic : goal.returns-clause-found_cyclic
returns-clause-found_cyclic c =
    found_cyclic c.args.edit.now.rooms.now c.args.edit.now.next.now c.args.edit.now.cyclic.now c.args.cone.now c.in_ok-pinned.pinned c.in_ok-rest.rest c.strip.new.rest c.in_ok-list.list.items _ c.in_ok-reads.reads (rw c.set.ensures at c.in_ok-list.ensures.items)
    (rw c.deref.ensures.value at c.in_ok-reads.ensures) refl c.in_ok-pinned.ensures (rw c.deref-2.ensures.value at c.in_ok-rest.ensures) c.strip.ensures.within c.strip.ensures.gone c.in_ok-strip.ensures.left
