-- Rectangles of which each lies below the one before: where their cells are, and what a search through them may leave out.
use Rattle.wi_edit_log.proofs.Words.{◌≡◌, ◌∙◌, ℕ, zero, suc, ◌+◌, ◌≤◌, ◌<◌, inl, inr, Bool, true, false, ◌||◌, ◌&&◌, List, [], ◌∷◌, length, drop, get_or, Option, Some, None, refl, ap, sym, subst, arith, nat_le, IsNonDecreasingBy, drop_more, drop_all, and_parts, and_from, and_left, both_ways, leb-true, le-leb, or_cases, Area, row_of, is_within, is_within_one, within_parts, IsFirst, in_both, in_one, are_rising, begins_from, rise_from}
use Rattle.wi_edit_log.proofs.First.{no_first, same_first}

-- ---- where rows of rectangles are

record Parts (n : ℕ) (x : Area) (xs : List Area) : Type 0 where
  below : n ≤ row_of x.first
  ordered : row_of x.first ≤ row_of x.last
  rest : rise_from (row_of x.last + 1) xs ≡ true

parts_of : (n : ℕ) (x : Area) (xs : List Area) → rise_from n (x ∷ xs) ≡ true → Parts n x xs
parts_of n x xs h =
    let p = and_parts (begins_from n x) _ h in
    let q = and_parts (nat_le n (row_of x.first)) _ p.0 in
    record { below = leb-true _ _ q.0; ordered = leb-true _ _ q.1; rest = p.1 }

-- they rise from any earlier row too
pub rise_earlier : (n m : ℕ) (xs : List Area) → n ≤ m → rise_from m xs ≡ true → rise_from n xs ≡ true
rise_earlier n m [] l h = refl
rise_earlier n m (x ∷ xs) l h =
    let p = parts_of m x xs h in
    let first : n ≤ row_of x.first = omega (arith, p.below, l) in
    and_from (begins_from n x) _ (and_from (nat_le n (row_of x.first)) _ (le-leb n (row_of x.first) first) (le-leb (row_of x.first) (row_of x.last) p.ordered)) p.rest

-- from the row of their first rectangle
rise_from_first : (n : ℕ) (x : Area) (xs : List Area) → rise_from n (x ∷ xs) ≡ true → rise_from (row_of x.first) (x ∷ xs) ≡ true
rise_from_first n x xs h =
    let p = parts_of n x xs h in
    let same : row_of x.first ≤ row_of x.first = omega arith in
    and_from (begins_from (row_of x.first) x) _ (and_from (nat_le (row_of x.first) (row_of x.first)) _ (le-leb (row_of x.first) (row_of x.first) same) (le-leb (row_of x.first) (row_of x.last) p.ordered)) p.rest

-- some that follow rise too
pub rise_after : (n k : ℕ) (xs : List Area) → rise_from n xs ≡ true → rise_from n (drop k xs) ≡ true
rise_after n zero xs h = h
rise_after n (suc k) [] h = refl
rise_after n (suc k) (x ∷ xs) h =
    let p = parts_of n x xs h in
    let later : n ≤ row_of x.last + 1 = omega (arith, p.below, p.ordered) in
    rise_after n k xs (rise_earlier n (row_of x.last + 1) xs later p.rest)

-- their cells are at the row n or below
below : (n : ℕ) (xs : List Area) (a : ℕ) → rise_from n xs ≡ true → is_within_one xs a ≡ true → n ≤ row_of a
below n [] a h t = absurd (both_ways (is_within_one [] a) refl t)
below n (x ∷ xs) a h t =
    let p = parts_of n x xs h in
    elim (or_cases (is_within x a) (is_within_one xs a) t) [
      | inl w ↦ let r = within_parts x a w in omega (arith, r.0, p.below)
      | inr w ↦ let l = below (row_of x.last + 1) xs a p.rest w in omega (arith, l, p.below, p.ordered)
    ]

last_below : (n : ℕ) (xs : List Area) (j : ℕ) (d : Area) → rise_from n xs ≡ true → j < length xs → n ≤ row_of (get_or xs j d).last
last_below n [] j d h l = absurd (omega (arith, l))
last_below n (x ∷ xs) zero d h l = let p = parts_of n x xs h in omega (arith, p.below, p.ordered)
last_below n (x ∷ xs) (suc j) d h l =
    let p = parts_of n x xs h in
    let m = last_below (row_of x.last + 1) xs j d p.rest (omega (arith, l)) in
    omega (arith, m, p.below, p.ordered)

-- their last rows rise
lasts : (n : ℕ) (xs : List Area) → rise_from n xs ≡ true → (i j : ℕ) (d : Area) → i ≤ j → j < length xs → row_of (get_or xs i d).last ≤ row_of (get_or xs j d).last
lasts n [] h i j d l m = absurd (omega (arith, m))
lasts n (x ∷ xs) h zero zero d l m = omega arith
lasts n (x ∷ xs) h zero (suc j) d l m =
    let p = parts_of n x xs h in
    let k = last_below (row_of x.last + 1) xs j d p.rest (omega (arith, m)) in
    omega (arith, k)
lasts n (x ∷ xs) h (suc i) zero d l m = absurd (omega (arith, l))
lasts n (x ∷ xs) h (suc i) (suc j) d l m = lasts (row_of x.last + 1) xs (parts_of n x xs h).rest i j d (omega (arith, l)) (omega (arith, m))

pub lasts_rise : (xs : List Area) → are_rising xs ≡ true → IsNonDecreasingBy (λ r. row_of r.last) xs
lasts_rise xs h i j d l m = lasts 0 xs h i j d l m

-- ---- the test whether they rise

pub rises_on : (n : ℕ) (xs : List Area) (i : ℕ) (x : Area) (b : Bool) (all : Bool) → i < length xs → x ≡ get_or xs i x → b ≡ begins_from n x → b ≡ true
    → all ≡ rise_from n (drop i xs) → all ≡ rise_from (row_of x.last + 1) (drop (i + 1) xs)
rises_on n xs i x b all l at e t h =
    let here : drop i xs ≡ x ∷ drop (i + 1) xs = drop_more xs i x l ∙ ap (λ y. y ∷ drop (i + 1) xs) (sym at) in
    let begins : begins_from n x ≡ true = sym e ∙ t in
    h ∙ ap (rise_from n) here ∙ ap (λ c. c && rise_from (row_of x.last + 1) (drop (i + 1) xs)) begins

pub rises_no_more : (n : ℕ) (xs : List Area) (i : ℕ) (x : Area) (b : Bool) (all : Bool) → i < length xs → x ≡ get_or xs i x → b ≡ begins_from n x → b ≡ false
    → all ≡ rise_from n (drop i xs) → false ≡ all
rises_no_more n xs i x b all l at e f h =
    let here : drop i xs ≡ x ∷ drop (i + 1) xs = drop_more xs i x l ∙ ap (λ y. y ∷ drop (i + 1) xs) (sym at) in
    let begins : begins_from n x ≡ false = sym e ∙ f in
    sym (h ∙ ap (rise_from n) here ∙ ap (λ c. c && rise_from (row_of x.last + 1) (drop (i + 1) xs)) begins)

pub rises_all : (n : ℕ) (xs : List Area) (i : ℕ) (all : Bool) → length xs ≤ i → all ≡ rise_from n (drop i xs) → true ≡ all
rises_all n xs i all l h = sym (h ∙ ap (rise_from n) (drop_all i xs l))

-- ---- what ends above a row

-- the first k end above the row n: no cell from there on is in them
pub passed : (xs : List Area) (k n a : ℕ) → ((i : ℕ) (d : Area) → i < k → i < length xs → row_of (get_or xs i d).last < n) → n ≤ row_of a → is_within_one xs a ≡ is_within_one (drop k xs) a
passed xs zero n a h l = refl
passed [] (suc k) n a h l = refl
passed (x ∷ xs) (suc k) n a h l =
    let ends : row_of x.last < n = h 0 x (omega arith) (omega arith) in
    let out : is_within x a ≡ false = not_within (is_within x a) refl ends in
    ap (λ b. b || is_within_one xs a) out ∙ passed xs k n a (λ i d m o. h (suc i) d (omega (arith, m)) (omega (arith, o))) l
  where
    not_within : (b : Bool) → is_within x a ≡ b → row_of x.last < n → is_within x a ≡ false
    not_within true e m = let r = within_parts x a e in absurd (omega (arith, r.1, m, l))
    not_within false e m = e

-- ---- the first that a rectangle meets

-- a cell of the rectangle is in all exactly where it is in those from i on
abbrev pub ArePassed : Area → List Area → ℕ → Type 0
ArePassed r xs i = (a : ℕ) → is_within r a ≡ true → is_within_one xs a ≡ is_within_one (drop i xs) a

module _ (r : Area) (xs : List Area) (i : ℕ) (x : Area) (l : i < length xs) (at : x ≡ get_or xs i x) (rising : are_rising xs ≡ true) (before : ArePassed r xs i) where
  here : drop i xs ≡ x ∷ drop (i + 1) xs
  here = drop_more xs i x l ∙ ap (λ y. y ∷ drop (i + 1) xs) (sym at)

  rest_rises : rise_from 0 (x ∷ drop (i + 1) xs) ≡ true
  rest_rises = ap (rise_from 0) (sym here) ∙ rise_after 0 i xs rising

  in_rest : (a : ℕ) → is_within r a ≡ true → is_within_one xs a ≡ (is_within x a || is_within_one (drop (i + 1) xs) a)
  in_rest a w = before a w ∙ ap (λ ys. is_within_one ys a) here

  -- it ends above what is left
  none_left : (a : ℕ) → row_of r.last < row_of x.first → in_one r xs a ≡ true → Prim.⊥
  none_left a m t =
      let p = and_parts (is_within r a) (is_within_one xs a) t in
      let rows = within_parts r a p.0 in
      let low = below (row_of x.first) (x ∷ drop (i + 1) xs) a (rise_from_first 0 x (drop (i + 1) xs) rest_rises) (sym (in_rest a p.0) ∙ p.1) in
      omega (arith, rows.1, low, m)

  pub ends_above : row_of r.last < row_of x.first → IsFirst (in_one r xs) None
  ends_above m = record { passes = tt; least = λ a t. none_left a m t }

  -- it meets this one
  met_passes : (at' : ℕ) → in_both r x at' ≡ true → in_one r xs at' ≡ true
  met_passes a t =
      let p = and_parts (is_within r a) (is_within x a) t in
      and_from (is_within r a) (is_within_one xs a) p.0 (in_rest a p.0 ∙ ap (λ b. b || is_within_one (drop (i + 1) xs) a) p.1)

  met_least : (c a : ℕ) → in_both r x c ≡ true → ((b : ℕ) → in_both r x b ≡ true → c ≤ b) → in_one r xs a ≡ true → c ≤ a
  met_least c a t h k =
      let p = and_parts (is_within r a) (is_within_one xs a) k in
      let q = and_parts (is_within r c) (is_within x c) t in
      let rows = within_parts x c q.1 in
      elim (or_cases (is_within x a) (is_within_one (drop (i + 1) xs) a) (sym (in_rest a p.0) ∙ p.1)) [
        | inl w ↦ h a (and_from (is_within r a) (is_within x a) p.0 w)
        | inr w ↦
            let low = below (row_of x.last + 1) (drop (i + 1) xs) a (parts_of 0 x (drop (i + 1) xs) rest_rises).rest w in
            omega (arith, rows.1, low)
      ]

  pub meets : (o : Option ℕ) (c : ℕ) → IsFirst (in_both r x) o → o ≡ Some c → IsFirst (in_one r xs) (Some c)
  meets o c h e =
      let k = subst (λ p. IsFirst (in_both r x) p) e h in
      record { passes = met_passes c k.passes; least = λ a t. met_least c a k.passes k.least t }

  -- it does not
  pub passes_by : (o : Option ℕ) → IsFirst (in_both r x) o → o ≡ None → ArePassed r xs (i + 1)
  passes_by o h e a w = in_rest a w ∙ ap (λ b. b || is_within_one (drop (i + 1) xs) a) (out (is_within x a) refl)
    where
      k : IsFirst (in_both r x) None
      k = subst (λ p. IsFirst (in_both r x) p) e h

      out : (b : Bool) → is_within x a ≡ b → is_within x a ≡ false
      out true t = absurd (k.least a (and_from (is_within r a) (is_within x a) w t))
      out false t = t

-- it meets none of them
pub meets_none : (r : Area) (xs : List Area) (i : ℕ) → length xs ≤ i → ArePassed r xs i → IsFirst (in_one r xs) None
meets_none r xs i l before = no_first (in_one r xs) (λ a. none a (is_within r a) refl)
  where
    none : (a : ℕ) (b : Bool) → is_within r a ≡ b → in_one r xs a ≡ false
    none a true w = ap (λ b. b && is_within_one xs a) w ∙ before a w ∙ ap (λ ys. is_within_one ys a) (drop_all i xs l)
    none a false w = and_left (is_within r a) (is_within_one xs a) w

-- what ends above the rectangle is left out
pub first_of_rest : (r : Area) (xs ys : List Area) (k : ℕ) (o : Option ℕ) → ys ≡ drop k xs → ((a : ℕ) → row_of r.first ≤ row_of a → is_within_one xs a ≡ is_within_one (drop k xs) a)
    → IsFirst (in_one r ys) o → IsFirst (in_one r xs) o
first_of_rest r xs ys k o e h = same_first (in_one r ys) (in_one r xs) o (λ a. same a (is_within r a) refl)
  where
    same : (a : ℕ) (b : Bool) → is_within r a ≡ b → in_one r ys a ≡ in_one r xs a
    same a true w = ap (λ c. is_within r a && c) (ap (λ zs. is_within_one zs a) e ∙ sym (h a (within_parts r a w).0))
    same a false w = and_left (is_within r a) (is_within_one ys a) w ∙ sym (and_left (is_within r a) (is_within_one xs a) w)
