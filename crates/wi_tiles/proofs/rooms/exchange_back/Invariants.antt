use Rattle.wi_tiles.proofs.Words.{◌≡◌, ℕ, take, held_at, with_all_back, AreReadyFor}
use Rattle.wi_tiles.proofs.rooms.exchange_back.Given as goal

abbrev pub invariant-loop-i : goal.invariant-loop-i
invariant-loop-i g l = record {
  after : (q : ℕ) → with_all_back (held_at g.V.MayBeVacant.vacant l.rooms.entries) (take l.i l.changes) q ≡ with_all_back (held_at g.V.MayBeVacant.vacant l.initial.rooms.entries) l.initial.changes q;
  ready : AreReadyFor g.V.MayBeVacant.vacant l.changes l.rooms.entries;
}
