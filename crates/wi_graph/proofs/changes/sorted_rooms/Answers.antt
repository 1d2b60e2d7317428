use Rattle.wi_graph.proofs.Words.{IfOk-from_err}
use Rattle.wi_graph.proofs.ChangeSteps.{brings_start, brings_step, brings_end}
use Rattle.wi_graph.proofs.changes.sorted_rooms.Goals as goal

pub loop-change-init : goal.loop-change-init
loop-change-init c = brings_start c.args.rooms.now c.new-next.result.entries c.new-next.ensures.empty

pub loop-change-preserved : goal.loop-change-preserved
loop-change-preserved c = (
  brings_step c.args.changes.now c.loop-change.change-index c.change-item.result c.args.rooms.now c.loop-change.next.entries c.put_next.new.next.entries _ c.loop-change-test.true c.change-item.is c.in_ok-room.ensures c.in_ok-put_next.ensures.puts c.loop-change.invariant.0,
  c.in_ok-put_next.ensures.no_idle c.loop-change.invariant.1,
)

pub returns-in_err-room-clause-brings : goal.returns-in_err-room-clause-brings
returns-in_err-room-clause-brings c = IfOk-from_err c.from_residual.result _ c.from_residual.ensures.0

pub returns-in_err-room-clause-no_idle : goal.returns-in_err-room-clause-no_idle
returns-in_err-room-clause-no_idle c = IfOk-from_err c.from_residual.result _ c.from_residual.ensures.0

pub returns-in_err-put_next-clause-brings : goal.returns-in_err-put_next-clause-brings
returns-in_err-put_next-clause-brings c = IfOk-from_err c.from_residual-in_err-put_next.result _ c.from_residual-in_err-put_next.ensures.0

pub returns-in_err-put_next-clause-no_idle : goal.returns-in_err-put_next-clause-no_idle
returns-in_err-put_next-clause-no_idle c = IfOk-from_err c.from_residual-in_err-put_next.result _ c.from_residual-in_err-put_next.ensures.0

pub returns-clause-brings : goal.returns-clause-brings
returns-clause-brings c = brings_end c.args.rooms.now c.loop-change.next.entries c.args.changes.now c.loop-change.change-index c.loop-change-test.false c.loop-change.invariant.0

pub returns-clause-no_idle : goal.returns-clause-no_idle
returns-clause-no_idle c = c.loop-change.invariant.1
