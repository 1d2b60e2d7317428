-- Levels of blocks at which no piece stands.
use Rattle.wi_ranges.proofs.Words.{◌≡◌, ◌<◌, ◌≤◌, ◌||◌, ℕ, Bool, false, List, [], ◌∷◌, All, get_or, refl, sym, ap, ◌∙◌, arith, nat_cmp, ordering_then, is_lt, Ordering, Less, Equal, Greater, list_any, nat_tests, list_any_none, or-false, cmp_after, Block, Piece, piece_cmp, reads_at, AreUpTo}
use Rattle.wi_ranges.proofs.ReaderLemmas.{readers_more}

not_less : (a b : ℕ) (o p : Ordering) → is_lt (ordering_then (ordering_then (nat_cmp a b) o) p) ≡ false → b ≤ a
not_less a b o p h = at (nat_cmp a b) refl h
  where
    at : (x : Ordering) → nat_cmp a b ≡ x → is_lt (ordering_then (ordering_then x o) p) ≡ false → b ≤ a
    at Less e k = cc
    at Equal e k = grind (arith, nat_tests)
    at Greater e k = grind (arith, nat_tests)

-- none is above the last in their order
pub up_to_last : (pieces : List Piece) (k : Piece) → All (λ (q : Piece). is_lt (piece_cmp k q) ≡ false) pieces → AreUpTo k.0.level pieces
up_to_last pieces k h i x less = not_less k.0.level _ _ _ (h i x less)

apart : (x : Block) (a r : ℕ) (q : Piece) → q.0.level < x.level → reads_at (x ∷ []) a r q ≡ false
apart x a r q h = rw (cmp_after x.level q.0.level h) refl

-- so at a block above the level no cell reads one
pub none_above : (pieces : List Piece) (x : Block) (level a r : ℕ) (b : Bool) → AreUpTo level pieces → level < x.level
    → b ≡ (b || list_any (reads_at (x ∷ []) a r) pieces)
none_above pieces x level a r b h less =
    sym (or-false b) ∙ ap (λ c. b || c) (sym (list_any_none (reads_at (x ∷ []) a r) pieces (λ i y k. apart x a r (get_or pieces i y) (omega (arith, h i y k, less)))))

-- and what stands at the blocks that hold a row stands at those from its half on
pub below_level : (pieces : List Piece) (x : Block) (xs zs : List Block) (level a r : ℕ) → AreUpTo level pieces → level < x.level → zs ≡ x ∷ xs
    → list_any (reads_at xs a r) pieces ≡ list_any (reads_at zs a r) pieces
below_level pieces x xs zs level a r h less e =
    readers_more x xs zs a r pieces false false (list_any (reads_at xs a r) pieces) e (none_above pieces x level a r false h less) refl
