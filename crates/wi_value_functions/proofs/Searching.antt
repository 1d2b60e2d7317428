-- What a binary search learns of a list whose keys, which are texts, ascend.
use Rattle.wi_value_functions.proofs.Words.{◌≡◌, ℕ, zero, suc, ◌+◌, ◌<◌, ◌≤◌, Bool, true, false, List, [], ◌∷◌, length, get_or, Option, refl, sym, ap, ◌∙◌, inl, inr, cond, arith, map, find, option_map, nat_cmp_is, slice_cmp, IsStrictlySortedBy, is_eq, nat_cmp, ordering_reverse, bytes_eq, Ordering, Less, Equal, Greater, cases_order, false_from_ne_true, nat_list_cmp_total, ranked, tied_itself, get_or-map, length-map, Less-from_sorted, sorted_tail, is_eq-slice_cmp, bytes_eq-Decides}
use Rattle.std.proofs.Common.{Some, None}

-- texts that ascend, each below all that follow, compare as their places do
as_places : (ks : List (List ℕ)) (i j : ℕ) (d : List ℕ) → IsStrictlySortedBy (slice_cmp nat_cmp) ks → i < length ks → j < length ks → slice_cmp nat_cmp (get_or ks i d) (get_or ks j d) ≡ nat_cmp i j
as_places ks i j d ascend first second = elim (cases_order i j) [
  | inl same ↦ rw same (tied_itself nat_list_cmp_total (get_or ks j d) ∙ nat_cmp_is j j Equal refl)
  | inr (inl before) ↦ lower i j before second ∙ nat_cmp_is i j Less before
  | inr (inr behind) ↦ nat_list_cmp_total.antisymm (get_or ks i d) (get_or ks j d) ∙ ap ordering_reverse (lower j i behind first) ∙ nat_cmp_is i j Greater behind
]
  where
    lower : (i j : ℕ) → i < j → j < length ks → slice_cmp nat_cmp (get_or ks i d) (get_or ks j d) ≡ Less
    lower i j before in_range = Less-from_sorted (slice_cmp nat_cmp) ks i j d ascend before in_range

module _ {X : Type 0} (key : X → List ℕ) where
  -- the keys ascend
  abbrev pub KeysAscend : List X → Type 0
  KeysAscend xs = IsStrictlySortedBy (slice_cmp nat_cmp) (map key xs)

  module _ (name : List ℕ) where
    -- an element's key against the name
    abbrev against : List X → ℕ → X → Ordering
    against xs i d = slice_cmp nat_cmp (key (get_or xs i d)) name

    -- the first element whose key is the name
    abbrev pub named : List X → Option X
    named xs = find (λ x. bytes_eq (key x) name) xs

    -- a key compares with the name as its place does with one where the name stands
    to_place : (xs : List X) (i j : ℕ) (d e : X) → KeysAscend xs → i < length xs → j < length xs → key (get_or xs j e) ≡ name → against xs i d ≡ nat_cmp i j
    to_place xs i j d e ascend first second is =
        let one = get_or-map key xs i d (key d) first in
        let other = get_or-map key xs j e (key d) second in
        rw (← is, ← one, ← other) (as_places (map key xs) i j (key d) ascend (omega (arith, length-map xs key)) (omega (arith, length-map xs key)))

    -- where a key is the name, its element is the first
    pub one_named : (xs : List X) (i : ℕ) (d : X) → KeysAscend xs → i < length xs → key (get_or xs i d) ≡ name → named xs ≡ Some (get_or xs i d)
    one_named [] i d ascend in_range is = absurd (omega arith)
    one_named (x ∷ xs) zero d ascend in_range is = rw ((bytes_eq-Decides (key x) name).1 is) refl
    one_named (x ∷ xs) (suc i) d ascend in_range is =
        let lower = to_place (x ∷ xs) 0 (suc i) d d ascend (omega arith) in_range is ∙ sym (nat_cmp_is 0 (suc i) Less (omega arith)) in
        rw (sym (is_eq-slice_cmp (key x) name) ∙ ap is_eq lower) (one_named xs i d (sorted_tail (slice_cmp nat_cmp) (key x) (map key xs) ascend) (omega arith) is)

    -- where no key is the name, no element is named
    none_named : (xs : List X) → ((k : ℕ) (d : X) → k < length xs → key (get_or xs k d) ≡ name → ⊥) → named xs ≡ None
    none_named [] differ = refl
    none_named (x ∷ xs) differ =
        let other : bytes_eq (key x) name ≡ false = false_from_ne_true _ (λ e. differ 0 x (omega arith) ((bytes_eq-Decides (key x) name).0 e)) in
        rw other (none_named xs (λ k d in_range. differ (suc k) d (omega arith)))

    -- if the name stands anywhere, it stands from one place up to another
    abbrev pub IsWithin : List X → ℕ → ℕ → Type 0
    IsWithin xs from to = (k : ℕ) (d : X) → k < length xs → key (get_or xs k d) ≡ name → (from ≤ k) × (k < to)

    module _ (xs : List X) (from to : ℕ) (within : IsWithin xs from to) where
      -- where there is no place between them, it stands nowhere
      pub nowhere : to ≤ from → named xs ≡ None
      nowhere none = none_named xs (λ k d in_range is. let bounds = within k d in_range is in omega arith)

      module _ (i : ℕ) (d : X) (ascend : KeysAscend xs) (in_range : i < length xs) where
        -- it stands behind a key that is below it
        pub behind : against xs i d ≡ Less → IsWithin xs (i + 1) to
        behind below k e in_list is =
            let after : i < k = ranked i k Less (sym below ∙ to_place xs i k d e ascend in_range in_list is) in
            (omega arith, (within k e in_list is).1)

        -- it stands before one that is above it
        pub before : against xs i d ≡ Greater → IsWithin xs from i
        before above k e in_list is =
            ((within k e in_list is).0, ranked i k Greater (sym above ∙ to_place xs i k d e ascend in_range in_list is))

-- what is found among a function's results is its result of what is found
pub find-map : {X Y : Type 0} (f : X → Y) (p : Y → Bool) (xs : List X) → find p (map f xs) ≡ option_map f (find (λ x. p (f x)) xs)
find-map f p [] = refl
find-map {X} {Y} f p (x ∷ xs) = either (p (f x)) _ (find-map f p xs)
  where
    either : {o : Option Y} (b : Bool) (r : Option X) → o ≡ option_map f r → cond b (Some (f x)) o ≡ option_map f (cond b (Some x) r)
    either true r e = refl
    either false r e = e
