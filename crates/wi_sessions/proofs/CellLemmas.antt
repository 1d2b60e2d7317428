-- Laws of lists of cells.
use Rattle.wi_sessions.proofs.Words.{◌≡◌, ◌<◌, ◌≤◌, ◌+◌, ℕ, eqb, Bool, true, false, cond, List, [], ◌∷◌, filter, refl, sym, ap, ◌∙◌, arith, ◌*◌, subst, All, Contains, dedup, IsPermutation, IsStrictlyIncreasing, nat_cmp, All-head, All-tail, Contains-dedup_nat, Contains-from_dedup, Contains-permutation, IsPermutation-sym, sorted_from_strictly_increasing, one_truth, rows, columns, sheet_size, is_one_of, Rises, is_some, lookup, keys_of, is_some-lookup, is_at, has_key, has-from_Contains, Contains-from_has, map, Option, Some, None, Ascends, Ascends-from_order, ComeAfter, same_entries}
use Rattle.std.specs.List.Sorted.{IsStrictlySortedBy}

-- ---- lists of cells in order

-- the cells as entries that have nothing beside
abbrev pub bare : List ℕ → List (ℕ × Unit {0})
bare xs = map (λ (x : ℕ). (x, tt)) xs

keys-bare : (xs : List ℕ) → keys_of (bare xs) ≡ xs
keys-bare [] = refl
keys-bare (x ∷ xs) = ap (λ (ys : List ℕ). x ∷ ys) (keys-bare xs)

abbrev pub Ascend : List ℕ → Type 0
Ascend xs = Ascends (bare xs)

pub ascend : (xs : List ℕ) → IsStrictlySortedBy nat_cmp xs → Ascend xs
ascend xs h = Ascends-from_order (bare xs) (subst (IsStrictlySortedBy nat_cmp) (sym (keys-bare xs)) h)

come_after_filter : (p : ℕ → Bool) (a : ℕ) (xs : List ℕ) → ComeAfter a (bare xs) → ComeAfter a (bare (filter p xs))
come_after_filter p a [] h = tt
come_after_filter p a (x ∷ xs) h = by (p x) (come_after_filter p a xs h.1)
  where
    by : (b : Bool) → ComeAfter a (bare (filter p xs)) → ComeAfter a (bare (cond b (x ∷ filter p xs) (filter p xs)))
    by true ih = (h.0, ih)
    by false ih = ih

pub ascend_filter : (p : ℕ → Bool) (xs : List ℕ) → Ascend xs → Ascend (filter p xs)
ascend_filter p [] h = tt
ascend_filter p (x ∷ xs) h = by (p x) (ascend_filter p xs h.1)
  where
    by : (b : Bool) → Ascend (filter p xs) → Ascend (cond b (x ∷ filter p xs) (filter p xs))
    by true ih = (come_after_filter p x xs h.0, ih)
    by false ih = ih

-- ---- which cells are listed

-- whether a cell has something, as a look-up tells it
pub has_listed : {X : Type 0} (es : List (ℕ × X)) (q : ℕ) → is_some (lookup (is_at (nat_cmp q)) es) ≡ is_one_of (keys_of es) q
has_listed es q = is_some-lookup (is_at (nat_cmp q)) es ∙ has_key (keys_of es) q

nothing_beside : (o p : Option (Unit {0})) → is_some o ≡ is_some p → o ≡ p
nothing_beside None None h = refl
nothing_beside (Some u) (Some v) h = refl
nothing_beside None (Some v) h = cc
nothing_beside (Some u) None h = cc

listed : (xs : List ℕ) (q : ℕ) → is_some (lookup (is_at (nat_cmp q)) (bare xs)) ≡ is_one_of xs q
listed xs q = has_listed (bare xs) q ∙ ap (λ (ys : List ℕ). is_one_of ys q) (keys-bare xs)

-- lists in order that have the same cells are the same
pub same_listed : (xs ys : List ℕ) → Ascend xs → Ascend ys → ((q : ℕ) → is_one_of xs q ≡ is_one_of ys q) → xs ≡ ys
same_listed xs ys a b h =
    let same = same_entries (bare xs) (bare ys) a b (λ q. nothing_beside _ _ (listed xs q ∙ h q ∙ sym (listed ys q))) in
    sym (keys-bare xs) ∙ ap keys_of same ∙ keys-bare ys

pub none_in_order : (ks : List ℕ) → ks ≡ [] → IsStrictlySortedBy nat_cmp ks
unfolding IsStrictlySortedBy
none_in_order ks e = rw e tt

-- ---- the pending cells rise

abbrev AtLeast : ℕ → List ℕ → Type 0
AtLeast low [] = Unit {0}
AtLeast low (x ∷ xs) = low ≤ x

above : (a : ℕ) (xs : List ℕ) → ComeAfter a (bare xs) → AtLeast (a + 1) xs
above a [] h = tt
above a (x ∷ xs) h = omega (arith, h.0)

from_zero : (xs : List ℕ) → AtLeast 0 xs
from_zero [] = tt
from_zero (x ∷ xs) = omega arith

rising : (low high : ℕ) (xs : List ℕ) → Ascend xs → AtLeast low xs → All (λ a. a < high) xs → Rises low high xs
rising low high [] a l h = tt
rising low high (x ∷ xs) a l h = (l, All-head (λ k. k < high) x xs h, rising (x + 1) high xs a.1 (above x xs a.0) (All-tail (λ k. k < high) x xs h))

-- so a list of cells in order that lie in the sheet rises
pub rises : (xs : List ℕ) → Ascend xs → All (λ a. a < rows * columns) xs → Rises 0 sheet_size xs
unfolding sheet_size
rises xs a h = rising 0 (rows * columns) xs a (from_zero xs) h

-- ---- lists that are sorted

-- what a sort, and each cell once, leave has the same cells
pub sorted_once : (cells sorted list : List ℕ) → IsPermutation cells sorted → list ≡ dedup eqb sorted → (c : ℕ) → is_one_of list c ≡ is_one_of cells c
sorted_once cells sorted list p d c =
    one_truth (is_one_of list c) (is_one_of cells c)
    (λ t. has-from_Contains cells c (Contains-permutation sorted cells c (IsPermutation-sym cells sorted p) (Contains-from_dedup eqb sorted c (subst (λ (xs : List ℕ). Contains xs c) d (Contains-from_has list c t)))))
    (λ t. has-from_Contains list c (subst (λ (xs : List ℕ). Contains xs c) (sym d) (Contains-dedup_nat sorted c (Contains-permutation cells sorted c p (Contains-from_has cells c t)))))

-- a list that rises is in order
pub ascend_rising : (xs : List ℕ) → IsStrictlyIncreasing xs → Ascend xs
ascend_rising xs h = ascend xs (sorted_from_strictly_increasing xs h)
