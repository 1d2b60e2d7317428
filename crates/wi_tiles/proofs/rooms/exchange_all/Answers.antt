use Rattle.wi_tiles.proofs.Words.{◌<◌, ◌≤◌, ◌∙◌, length, arith, taken, held_at, with_all, stood}
use Rattle.wi_tiles.proofs.RoomChanges.{all_more, stood_more, ready_more, counted_more, counts_fit}
use Rattle.wi_tiles.proofs.rooms.exchange_all.Goals as goal

pub overflow_add-occupied : goal.overflow_add-occupied
overflow_add-occupied g c =
    let small : c.len.result ≤ 17179869184 = c.len.ensures.small in
    omega (
      arith,
      counts_fit g.V.MayBeVacant.is_taken c.args.rooms.now.entries c.loop-change.rooms.entries c.loop-change.occupied c.from-occupied.result c.is_taken.result
          c.loop-change.invariant.cells (omega (arith, small, c.len.ensures.len)) c.loop-change.invariant.occupied c.from-occupied.ensures,
    )

pub exchange-requires : goal.exchange-requires
exchange-requires g c = c.loop-change.invariant.ready.room c.loop-change.change-index c.change-item.result (omega arith)

pub loop-change-preserved : goal.loop-change-preserved
loop-change-preserved g c =
    let vacant = g.V.MayBeVacant.vacant in
    let below : c.loop-change.change-index < length c.loop-change.changes = omega arith in
    let counted = counted_more c.loop-change.occupied (length (taken g.V.MayBeVacant.is_taken c.loop-change.rooms.entries)) (length (taken g.V.MayBeVacant.is_taken c.exchange.new.rooms.entries))
    c.from-occupied.result c.from-occupied-in-loop-change.result c.is_taken.result c.is_taken-in-loop-change.result _ _ c.loop-change.invariant.occupied
    c.from-occupied.ensures c.is_taken.ensures c.from-occupied-in-loop-change.ensures c.is_taken-in-loop-change.ensures c.exchange.ensures.occupied in
    record {
      after = all_more (with_all (held_at vacant c.args.rooms.now.entries) c.args.changes.now) (held_at vacant c.loop-change.rooms.entries) (held_at vacant c.exchange.new.rooms.entries)
          c.loop-change.changes c.loop-change.change-index c.change-item.result _ below c.exchange.ensures.after c.loop-change.invariant.after;
      stood = stood_more (held_at vacant c.loop-change.rooms.entries) (held_at vacant c.exchange.new.rooms.entries) (stood (held_at vacant c.args.rooms.now.entries) c.args.changes.now)
          c.loop-change.changes c.loop-change.change-index c.change-item.result c.exchange.new.new below c.exchange.ensures.after c.exchange.ensures.stood c.loop-change.invariant.stood;
      occupied = omega (arith, counted);
      cells = c.exchange.ensures.cells ∙ c.loop-change.invariant.cells;
      ready = ready_more vacant c.loop-change.changes c.loop-change.change-index c.change-item.result c.exchange.new.new c.loop-change.rooms.entries c.exchange.new.rooms.entries
          below c.exchange.ensures.cells c.exchange.ensures.stood c.exchange.ensures.others c.loop-change.invariant.ready;
    }
