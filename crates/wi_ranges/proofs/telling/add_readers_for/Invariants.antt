use Rattle.wi_ranges.proofs.Words.{◌≡◌, ◌||◌, ℕ, nat_cmp, list_any, contains}
use Rattle.wi_ranges.specs.Inner.Telling.{reads_for, stands_for}
use Rattle.wi_ranges.proofs.AreaLemmas.{ComeFirst}
use Rattle.wi_ranges.proofs.telling.add_readers_for.Given as goal

-- the readers found, and those that are left to find
abbrev pub invariant-loop-place : goal.invariant-loop-place
invariant-loop-place l = ComeFirst (stands_for l.block l.area) l.place-iterator × ((r : ℕ) →
    (contains nat_cmp l.readers r || list_any (reads_for l.block l.area r) l.place-iterator)
    ≡ (contains nat_cmp l.initial.readers r || list_any (reads_for l.block l.area r) l.initial.place-iterator))
