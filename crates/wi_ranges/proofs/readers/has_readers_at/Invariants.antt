use Rattle.wi_ranges.proofs.Words.{◌≡◌, ◌∷◌, [], ℕ, list_any, reads_at}
use Rattle.wi_ranges.proofs.ReaderLemmas.{AreFirst}
use Rattle.wi_ranges.proofs.readers.has_readers_at.Given as goal

-- who is left to find reads it, and no other
abbrev pub invariant-loop-place : goal.invariant-loop-place
invariant-loop-place l = AreFirst l.block l.place-iterator × ((r : ℕ) →
    list_any (reads_at (l.block ∷ []) l.at r) l.place-iterator ≡ list_any (reads_at (l.block ∷ []) l.at r) l.initial.place-iterator)
