-- Replacements that are picked by their cells are those that are of one of the cells.
use Rattle.wi_worlds.proofs.Words.{◌≡◌, ◌==◌, ◌||◌, ℕ, Bool, true, false, cond, List, [], ◌∷◌, map, filter, Option, Some, None, is_some, refl, sym, ap, ◌∙◌, subst, option_map, IsStrictlyIncreasing, IsStrictlyIncreasing-filter, eqb-true, Value, Replacement, IsInOrder, replaced, is_at-eq, turn_test, same_from_replaced, order_of_filter, replaced-filter, is_one_of, is_of, and_then, picked}

abbrev of_value : ℕ → Option Value → Option Replacement
of_value c o = option_map (λ v. record { at = c; value = v }) o

-- ---- their order

cells_picked : (rs : List Replacement) (cs : List ℕ) → map (λ r. r.at) (picked rs cs) ≡ filter (λ c. is_some (replaced rs c)) cs
cells_picked rs [] = refl
cells_picked rs (c ∷ cs) = by (replaced rs c) (cells_picked rs cs)
  where
    by : (o : Option Value) → map (λ r. r.at) (picked rs cs) ≡ filter (λ d. is_some (replaced rs d)) cs
        → map (λ r. r.at) (and_then (of_value c o) (picked rs cs)) ≡ cond (is_some o) (c ∷ filter (λ d. is_some (replaced rs d)) cs) (filter (λ d. is_some (replaced rs d)) cs)
    by None h = h
    by (Some v) h = ap (λ (xs : List ℕ). c ∷ xs) h

order_picked : (rs : List Replacement) (cs : List ℕ) → IsStrictlyIncreasing cs → IsInOrder (picked rs cs)
order_picked rs cs h = subst IsStrictlyIncreasing (sym (cells_picked rs cs)) (IsStrictlyIncreasing-filter (λ c. is_some (replaced rs c)) cs h)

-- ---- what an address has among them

replaced_picked : (rs : List Replacement) (cs : List ℕ) (a : ℕ) → replaced (picked rs cs) a ≡ cond (is_one_of cs a) (replaced rs a) None
replaced_picked rs [] a = refl
replaced_picked rs (c ∷ cs) a = by (replaced rs c) refl (c == a) refl (replaced_picked rs cs a)
  where
    there : (c == a) ≡ true → replaced rs a ≡ replaced rs c
    there t = ap (replaced rs) (sym (eqb-true c a t))

    at_front : (v : Value) (b : Bool) → (c == a) ≡ b → replaced (and_then (of_value c (Some v)) (picked rs cs)) a ≡ cond b (Some v) (replaced (picked rs cs) a)
    at_front v b t = ap (λ (s : Bool). cond s (Some v) (replaced (picked rs cs) a)) (is_at-eq a c ∙ turn_test a c ∙ t)

    nothing : (b : Bool) (o : Option Value) → o ≡ None → cond b o None ≡ o
    nothing true o e = refl
    nothing false o e = sym e

    by : (o : Option Value) → replaced rs c ≡ o → (b : Bool) → (c == a) ≡ b → replaced (picked rs cs) a ≡ cond (is_one_of cs a) (replaced rs a) None
        → replaced (and_then (of_value c o) (picked rs cs)) a ≡ cond (b || is_one_of cs a) (replaced rs a) None
    by None e true t h = h ∙ nothing (is_one_of cs a) (replaced rs a) (there t ∙ e)
    by None e false t h = h
    by (Some v) e true t h = at_front v true t ∙ sym (there t ∙ e)
    by (Some v) e false t h = at_front v false t ∙ h

pub picked_is : (rs : List Replacement) (cs : List ℕ) → IsInOrder rs → IsStrictlyIncreasing cs → picked rs cs ≡ filter (is_of cs) rs
picked_is rs cs order rise =
    same_from_replaced (picked rs cs) (filter (is_of cs) rs) (order_picked rs cs rise) (order_of_filter (is_of cs) rs order)
    (λ a. replaced_picked rs cs a ∙ sym (replaced-filter (is_one_of cs) a rs))
