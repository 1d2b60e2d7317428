use Rattle.wi_sessions.proofs.Words.{◌<◌, length, refl, arith, rules, length-set, AreKept}
use Rattle.wi_sessions.proofs.PlaceLemmas.{kept_at, place_tracked, place_read, places_set}
use Rattle.wi_sessions.proofs.PendingLemmas.{dropped_kept, kept_here, more_room, no_room, within_unread}
use Rattle.wi_sessions.proofs.pending.Pending.make_room.Goals as goal

pub stage_own-requires : goal.stage_own-requires
stage_own-requires c = c.self.invariant.order

pub bit_of-bit-requires : goal.bit_of-bit-requires
bit_of-bit-requires c =
    let l = within_unread c.self.inside.words.entries c.self.inside.staged.items (length c.self.inside.unread.items) c.args.i c.args.self.now c.self.view_is c.requires in
    omega (arith, l, c.self.invariant.few)

pub index_mut-requires : goal.index_mut-requires
index_mut-requires c =
    let l = within_unread c.self.inside.words.entries c.self.inside.staged.items (length c.self.inside.unread.items) c.args.i c.args.self.now c.self.view_is c.requires in
    omega (arith, l, c.self.inside.unread.ok.0)

-- ---- room was made

pub returns-in-Ok : goal.returns-in-Ok
returns-in-Ok c =
    let i = c.self.inside in
    let n = length i.unread.items in
    let l : c.args.i < n = within_unread i.words.entries i.staged.items n c.args.i c.args.self.now c.self.view_is c.requires in
    let made = c.in-Ok.ensures.rooms in
    more_room i.words.entries i.staged.items c.stage_own.new.words.entries c.stage_own.new.staged.items c.args.i n c.bit_of-bit.result c.args.cells.now c.self.invariant.order c.stage_own.ensures.order l c.bit_of-bit.ensures made.room
    c.args.self.now _ c.self.view_is (length-set i.unread.items c.args.i c.stage_own.new.own) made.pending

pub invariant_of-self : goal.invariant_of-self
invariant_of-self c =
    let i = c.self.inside in
    let us = i.unread.items in
    let l : c.args.i < length us = within_unread i.words.entries i.staged.items (length us) c.args.i c.args.self.now c.self.view_is c.requires in
    let k = c.self.invariant in
    kept_here i.words.entries i.staged.items c.stage_own.new.words.entries c.stage_own.new.staged.items c.args.i (length us) c.bit_of-bit.result c.args.cells.now k.order c.stage_own.ensures.order l c.bit_of-bit.ensures
    c.in-Ok.ensures.rooms.room i.changed.items us c.stage_own.new.own refl k
    (place_tracked i.words.entries i.changed.items c.args.i c.index_mut.result.now c.stage_own.new.own (place_read i.words.entries i.changed.items us c.args.i c.index_mut.result.now k.places l c.index_mut.ensures.value)
    c.stage_own.ensures.from (c.stage_own.ensures.stay i.changed.items))
    (c.in-Ok.ensures.own i.changed.items)

-- ---- memory ran out

pub returns-in-Err : goal.returns-in-Err
returns-in-Err c =
    let i = c.self.inside in
    let n = length i.unread.items in
    let l : c.args.i < n = within_unread i.words.entries i.staged.items n c.args.i c.args.self.now c.self.view_is c.requires in
    let part = c.in-Err.ensures.rooms in
    no_room i.words.entries i.staged.items c.stage_own.new.words.entries c.stage_own.new.staged.items c.drop_rooms.new.words.entries c.args.i n c.bit_of-bit.result c.self.invariant.order c.drop_rooms.ensures.order l c.bit_of-bit.ensures
    part.pending part.others (search rules) c.args.cells.now c.args.self.now _ c.self.view_is (length-set i.unread.items c.args.i c.stage_own.new.own)

pub invariant_of-self-in-Err : goal.invariant_of-self-in-Err
invariant_of-self-in-Err c =
    let i = c.self.inside in
    let us = i.unread.items in
    let less = c.drop_rooms.new.words.entries in
    let rooms = c.stage_own.new.staged.items in
    let l : c.args.i < length us = within_unread i.words.entries i.staged.items (length us) c.args.i c.args.self.now c.self.view_is c.requires in
    let part = c.in-Err.ensures.rooms in
    let k : AreKept less rooms i.changed.items us = dropped_kept i.words.entries i.staged.items c.stage_own.new.words.entries rooms less c.args.i (length us) c.bit_of-bit.result c.self.invariant.order c.drop_rooms.ensures.order l c.bit_of-bit.ensures part.pending part.others (search rules) i.changed.items us refl c.self.invariant in
    kept_at less rooms i.changed.items us k i.changed.items _ (length-set us c.args.i c.stage_own.new.own)
    (places_set less i.changed.items us c.args.i c.stage_own.new.own l k.places
    (place_tracked less i.changed.items c.args.i c.index_mut.result.now c.stage_own.new.own (place_read less i.changed.items us c.args.i c.index_mut.result.now k.places l c.index_mut.ensures.value)
    c.stage_own.ensures.from (c.stage_own.ensures.stay i.changed.items)))
