use Rattle.wi_tiles.proofs.Words.{◌≡◌, ◌++◌, ℕ, length, take, drop, keys_of, taken, held_at, with_all, stood, AreReadyFor}
use Rattle.wi_tiles.proofs.rooms.exchange_all.Given as goal

abbrev pub invariant-loop-change : goal.invariant-loop-change
invariant-loop-change g l = record {
  after : (q : ℕ) → with_all (held_at g.V.MayBeVacant.vacant l.rooms.entries) (drop l.change-index l.changes) q ≡ with_all (held_at g.V.MayBeVacant.vacant l.initial.rooms.entries) l.initial.changes q;
  stood : take l.change-index l.changes ++ stood (held_at g.V.MayBeVacant.vacant l.rooms.entries) (drop l.change-index l.changes) ≡ stood (held_at g.V.MayBeVacant.vacant l.initial.rooms.entries) l.initial.changes;
  occupied : l.occupied ≡ length (taken g.V.MayBeVacant.is_taken l.rooms.entries);
  cells : keys_of l.rooms.entries ≡ keys_of l.initial.rooms.entries;
  ready : AreReadyFor g.V.MayBeVacant.vacant l.changes l.rooms.entries;
}
