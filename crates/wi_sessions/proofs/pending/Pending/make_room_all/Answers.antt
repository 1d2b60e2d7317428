use Rattle.wi_sessions.proofs.Words.{◌||◌, ◌&&◌, ◌∙◌, ℕ, not, map, length, ap, range_with_len, is_one_of, AllPending, list_at, cells_in, vacant_in}
use Rattle.wi_sessions.proofs.PlaceLemmas.{kept_at, kept_given}
use Rattle.wi_sessions.proofs.WordLemmas.{pending_then}
use Rattle.wi_sessions.proofs.PendingLemmas.{kept_each, pending_same, room_each, rooms_gone, within_unread}
use Rattle.wi_sessions.proofs.pending.Pending.make_room_all.Goals as goal

pub stage_all-requires-clause-order : goal.stage_all-requires-clause-order
stage_all-requires-clause-order c = c.self.invariant.order

pub stage_all-requires-clause-few : goal.stage_all-requires-clause-few
stage_all-requires-clause-few c = c.self.invariant.few

-- ---- room was made

pub returns-in-Ok : goal.returns-in-Ok
returns-in-Ok c =
    let i = c.self.inside in
    let n = length i.unread.items in
    let more = c.stage_all.new.words.entries in
    let rooms = c.stage_all.new.staged.items in
    let e = c.stage_all.ensures in
    record {
      pending = ap (λ (m : ℕ). map (cells_in more rooms) (range_with_len 0 m)) e.lists
          ∙ pending_same i.words.entries i.staged.items more rooms n c.self.invariant.order e.order e.pending ∙ ap (λ (p : AllPending). p.pending) c.self.view_is;
      room = λ j q l. ap (λ (m : ℕ). is_one_of (list_at (map (vacant_in more rooms) (range_with_len 0 m)) j) q) e.lists
          ∙ room_each i.words.entries i.staged.items more rooms n c.args.cells.now c.self.invariant.order e.order c.in-Ok.ensures.room j q (within_unread i.words.entries i.staged.items n j c.args.self.now c.self.view_is l)
          ∙ ap (λ (p : AllPending). is_one_of (list_at p.vacant j) q || (is_one_of c.args.cells.now q && not (is_one_of (list_at p.pending j) q))) c.self.view_is;
      refused = tt;
    }

pub invariant_of-self : goal.invariant_of-self
invariant_of-self c =
    let i = c.self.inside in
    let new = c.stage_all.new in
    let e = c.stage_all.ensures in
    let k = c.self.invariant in
    kept_each i.words.entries i.staged.items new.words.entries new.staged.items (length i.unread.items) c.args.cells.now k.order e.order c.in-Ok.ensures.room new.changed.items new.unread.items e.lists
    (kept_at i.words.entries i.staged.items i.changed.items i.unread.items k new.changed.items new.unread.items e.lists (e.places i.words.entries k.places))
    (c.in-Ok.ensures.looked i.words.entries k.places)

-- ---- memory ran out

pub cancel-requires : goal.cancel-requires
cancel-requires c = c.stage_all.ensures.order

pub returns-in-Err : goal.returns-in-Err
returns-in-Err c =
    let i = c.self.inside in
    let less = c.cancel.new.words.entries in
    let none = c.cancel.new.staged.items in
    record {
      pending = ap (λ (m : ℕ). map (cells_in less none) (range_with_len 0 m)) c.stage_all.ensures.lists
          ∙ pending_same i.words.entries i.staged.items less none (length i.unread.items) c.self.invariant.order c.cancel.ensures.order
          (pending_then i.words.entries i.staged.items c.stage_all.new.words.entries c.stage_all.new.staged.items less none c.stage_all.ensures.pending c.cancel.ensures.pending)
          ∙ ap (λ (p : AllPending). p.pending) c.self.view_is;
      room = tt;
      refused = λ j. rooms_gone less none (length c.stage_all.new.unread.items) j c.cancel.ensures.none;
    }

pub invariant_of-self-in-Err : goal.invariant_of-self-in-Err
invariant_of-self-in-Err c =
    let i = c.self.inside in
    let mid = c.stage_all.new in
    let new = c.cancel.new in
    let e = c.stage_all.ensures in
    kept_given i.words.entries i.staged.items mid.changed.items mid.unread.items
    (kept_at i.words.entries i.staged.items i.changed.items i.unread.items c.self.invariant mid.changed.items mid.unread.items e.lists (e.places i.words.entries c.self.invariant.places))
    new.words.entries new.staged.items c.cancel.ensures.order
    (pending_then i.words.entries i.staged.items mid.words.entries mid.staged.items new.words.entries new.staged.items e.pending c.cancel.ensures.pending) c.cancel.ensures.none
