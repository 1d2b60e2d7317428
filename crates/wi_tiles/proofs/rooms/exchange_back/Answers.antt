use Rattle.wi_tiles.proofs.Words.{◌≡◌, ◌+◌, ◌-◌, ◌<◌, length, arith, held_at, with_all_back}
use Rattle.wi_tiles.proofs.RoomChanges.{back_more, ready_more}
use Rattle.wi_tiles.proofs.rooms.exchange_back.Goals as goal

pub exchange-requires : goal.exchange-requires
exchange-requires g c = c.loop-i.invariant.ready.room (c.loop-i.i - 1) c.index-changes-i.result (omega arith)

pub loop-i-preserved : goal.loop-i-preserved
loop-i-preserved g c =
    let vacant = g.V.MayBeVacant.vacant in
    let below : c.loop-i.i - 1 < length c.loop-i.changes = omega arith in
    let before : (c.loop-i.i - 1) + 1 ≡ c.loop-i.i = omega arith in
    record {
      after = back_more (with_all_back (held_at vacant c.args.rooms.now.entries) c.args.changes.now) (held_at vacant c.loop-i.rooms.entries) (held_at vacant c.exchange.new.rooms.entries)
          c.loop-i.changes (c.loop-i.i - 1) c.index-changes-i.result _ below c.exchange.ensures.after (rw before c.loop-i.invariant.after);
      ready = ready_more vacant c.loop-i.changes (c.loop-i.i - 1) c.index-changes-i.result c.exchange.new.new c.loop-i.rooms.entries c.exchange.new.rooms.entries
          below c.exchange.ensures.cells c.exchange.ensures.stood c.exchange.ensures.others c.loop-i.invariant.ready;
    }
