use Rattle.wi_tiles.proofs.Words.{◌∙◌, arith}
use Rattle.wi_tiles.proofs.RoomChanges.{edit_less, edit_done}
use Rattle.wi_tiles.proofs.rooms.sweep_each.Goals as goal

pub loop-at-preserved : goal.loop-at-preserved
loop-at-preserved g c = record {
  same = λ q. c.sweep_one.ensures.same q ∙ c.loop-at.invariant.same q;
  edit = edit_less g.V.MayBeVacant.vacant c.args.changes.now c.loop-at.at-index c.loop-at-item.result c.loop-at.rooms.entries c.sweep_one.new.rooms.entries
      (omega arith) c.loop-at-item.is c.sweep_one.ensures.order c.sweep_one.ensures.swept c.sweep_one.ensures.vacant c.loop-at.invariant.edit;
}

pub returns-clause-between : goal.returns-clause-between
returns-clause-between g c = edit_done g.V.MayBeVacant.vacant c.args.changes.now c.loop-at.at-index c.loop-at.rooms.entries (omega arith) c.loop-at.invariant.edit
