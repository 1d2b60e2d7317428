use Rattle.wi_graph.proofs.Words.{on_err}
use Rattle.wi_graph.proofs.StageEnds.{same_graph, staged_graph, refused_graph}
use Rattle.wi_graph.proofs.graph.bring.Goals as goal

pub returns-in-Ok-clause-staged : goal.returns-in-Ok-clause-staged
returns-in-Ok-clause-staged c =
    staged_graph c.args.rooms.now c.bring_in.new.rooms c.args.next.items c.args.readers.now c.bring_in.new.readers c.args.cyclic.now c.bring_cyclic.new.cyclic c.args.turns c.requires.graph c.requires.order c.requires.no_idle c.bring_in.ensures.ordered
    (rw c.deref-2.ensures at c.in-Ok.ensures.has_rooms) (rw c.deref-2.ensures at c.in-Ok.ensures.pairs) c.bring_in.ensures.rooms c.requires.turns (rw c.deref.ensures.value at c.in_ok-bring_cyclic.ensures.ok)

pub returns-in_err-bring_cyclic-clause-err : goal.returns-in_err-bring_cyclic-clause-err
returns-in_err-bring_cyclic-clause-err c =
    on_err c.from_residual.result (same_graph c.args.rooms.now c.args.readers.now c.args.cyclic.now c.bring_cyclic.new.cyclic c.requires.graph c.in_err-bring_cyclic.ensures.err)

pub returns-in-Err-clause-err : goal.returns-in-Err-clause-err
returns-in-Err-clause-err c =
    refused_graph c.args.rooms.now c.bring_in.new.rooms c.args.readers.now c.bring_in.new.readers c.args.cyclic.now c.bring_cyclic.new.cyclic c.take_away.new.set c.args.turns.became.items c.deref-in-Err.result.now c.requires.graph
    c.bring_in.ensures.ordered c.bring_in.ensures.rooms c.in-Err.ensures.err c.requires.turns.fresh (rw c.deref.ensures.value at c.in_ok-bring_cyclic.ensures.ok) (search c.deref-in-Err.ensures.value) c.take_away.ensures
