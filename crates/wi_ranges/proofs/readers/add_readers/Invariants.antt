use Rattle.wi_ranges.proofs.Words.{◌≡◌, ◌||◌, ◌∷◌, [], ℕ, nat_cmp, list_any, contains, reads_at}
use Rattle.wi_ranges.proofs.ReaderLemmas.{AreFirst}
use Rattle.wi_ranges.proofs.readers.add_readers.Given as goal

-- the readers found, and those that are left to find
abbrev pub invariant-loop-place : goal.invariant-loop-place
invariant-loop-place l = AreFirst l.block l.place-iterator × ((r : ℕ) →
    (contains nat_cmp l.readers r || list_any (reads_at (l.block ∷ []) l.at r) l.place-iterator)
    ≡ (contains nat_cmp l.initial.readers r || list_any (reads_at (l.block ∷ []) l.at r) l.initial.place-iterator))
