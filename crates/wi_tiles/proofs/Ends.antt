-- That the first part and the last have something, after a change of one part, and where those at the ends that have nothing go.
use Rattle.wi_tiles.proofs.Words.{◌≡◌, ℕ, ◌+◌, ◌-◌, ◌/◌, ◌%◌, ◌<◌, ◌≤◌, List, [], ◌∷◌, length, Option, Some, None, sym, ap, arith, ◌∙◌, ⊎_elim, zero, suc, refl, subst, drop, ◌↔◌, slice_get, slice_set, slice_index_or, cases_eq, cases_lt, length-set, length-drop, slice_get_read, at_part, at_window, span, HasSome, IsTrimmed}
use Rattle.wi_tiles.proofs.Windows.{part_here, part_before, get_set, get_other, part_is, none_have, window_none}

get_drop : {S : Type 0} (ts : List S) (n j k : ℕ) → k ≡ n + j → slice_get (drop n ts) j ≡ slice_get ts k
get_drop ts zero j k e = ap (λ i. slice_get ts i) (let z : j ≡ k = omega (arith, e) in z)
get_drop [] (suc n) j k e = refl
get_drop (t ∷ ts) (suc n) j zero e = absurd (omega (arith, e))
get_drop (t ∷ ts) (suc n) j (suc k) e = get_drop ts n j k (omega (arith, e))

module _ {S V : Type 0} (at : S → ℕ → Option V) where
  -- another part at a place
  set_has : (ts : List S) (place : ℕ) (before w : S) → place < length ts → before ≡ slice_index_or ts place before → (HasSome at (Some before) → HasSome at (Some w)) → (j : ℕ) → HasSome at (slice_get ts j) → HasSome at (slice_get (slice_set ts place w) j)
  set_has ts place before w h read stays j has = ⊎_elim
      (λ e. subst (λ o. HasSome at o) (sym (ap (λ i. slice_get (slice_set ts place w) i) e ∙ get_set ts place w h)) (stays (subst (λ o. HasSome at o) (ap (λ i. slice_get ts i) e ∙ slice_get_read ts (length ts) place before (λ _. length ts) h read) has)))
      (λ ne. subst (λ o. HasSome at o) (sym (get_other ts place j w ne)) has)
      (cases_eq j place)

  pub trimmed_set : (ts : List S) (place : ℕ) (before w : S) → place < length ts → before ≡ slice_index_or ts place before → (HasSome at (Some before) → HasSome at (Some w)) → IsTrimmed at ts → IsTrimmed at (slice_set ts place w)
  trimmed_set ts place before w h read stays trimmed = record {
    first = λ l. set_has ts place before w h read stays 0 (trimmed.first (omega (arith, l, length-set ts place w)));
    last = λ l. subst (λ n. HasSome at (slice_get (slice_set ts place w) (n - 1))) (sym (length-set ts place w)) (set_has ts place before w h read stays (length ts - 1) (trimmed.last (omega (arith, l, length-set ts place w))));
  }

  -- a part of which something was taken, where something is left of it
  pub trimmed_cut : (ts : List S) (place : ℕ) (before w : S) → place < length ts → before ≡ slice_index_or ts place before → IsTrimmed at ts → HasSome at (slice_get (slice_set ts place w) place) → IsTrimmed at (slice_set ts place w)
  trimmed_cut ts place before w h read trimmed left = trimmed_set ts place before w h read (λ _. subst (λ o. HasSome at o) (get_set ts place w h) left) trimmed

  -- no parts
  pub trimmed_none : (ts : List S) → ts ≡ [] → IsTrimmed at ts
  trimmed_none ts e = record { first = λ l. absurd (omega (arith, l, ap length e)); last = λ l. absurd (omega (arith, l, ap length e)) }

  none_left : (f : ℕ) (ts : List S) → f + length ts ≤ span → IsTrimmed at ts → ((p : ℕ) → at_window at (f, ts) p ≡ None) → ts ≡ []
  none_left f [] bound trimmed nothing = refl
  none_left f (t ∷ ts) bound trimmed nothing = absurd (trimmed.first (omega arith) (λ p. none_have at f (t ∷ ts) bound nothing 0 p))

  pub none_where_none : (f : ℕ) (ts : List S) → f + length ts ≤ span → IsTrimmed at ts → (ts ≡ []) ↔ ((p : ℕ) → at_window at (f, ts) p ≡ None)
  none_where_none f ts bound trimmed = (λ e. window_none at f ts (ap length e), λ nothing. none_left f ts bound trimmed nothing)

  -- so many parts that have nothing, and one more
  pub vacant_more : (ts : List S) (n : ℕ) (x : S) → n < length ts → x ≡ slice_index_or ts n x → ((p : ℕ) → at x p ≡ None) → ((i p : ℕ) → i < n → at_part at (slice_get ts i) p ≡ None) → (i p : ℕ) → i < n + 1 → at_part at (slice_get ts i) p ≡ None
  vacant_more ts n x l read nothing before i p h = ⊎_elim
      (λ m. before i p m)
      (λ m. ap (λ j. at_part at (slice_get ts j) p) (let e : i ≡ n = omega (arith, h, m) in e) ∙ part_is at ts n x p l read ∙ nothing p)
      (cases_lt i n)

  -- those went from the beginning
  pub trimmed_from : (ts : List S) (n : ℕ) → n ≤ length ts → (0 < length ts → HasSome at (slice_get ts (length ts - 1))) → (n < length ts → HasSome at (slice_get ts n)) → IsTrimmed at (drop n ts)
  trimmed_from ts n h last first = record {
    first = λ l. subst (λ o. HasSome at o) (sym (get_drop ts n 0 n (omega arith))) (first (omega (arith, l, length-drop n ts)));
    last = λ l. subst (λ o. HasSome at o) (sym (get_drop ts n (length (drop n ts) - 1) (length ts - 1) (omega (arith, l, length-drop n ts)))) (last (omega (arith, l, length-drop n ts)));
  }

  pub window_from : (f : ℕ) (ts : List S) (n : ℕ) → ((i p : ℕ) → i < n → at_part at (slice_get ts i) p ≡ None) → (p : ℕ) → at_window at (f + n, drop n ts) p ≡ at_window at (f, ts) p
  window_from f ts n vacant p = ⊎_elim below above (cases_lt (p % span) (f + n))
    where
      nothing : p % span < f + n → at_window at (f, ts) p ≡ None
      nothing l = ⊎_elim
          (λ m. ap (λ x. at_part at x (p / span)) (part_before f ts (p % span) m))
          (λ m. ap (λ x. at_part at x (p / span)) (part_here f ts (p % span) m) ∙ vacant (p % span - f) (p / span) (omega (arith, l, m)))
          (cases_lt (p % span) f)

      below : p % span < f + n → at_window at (f + n, drop n ts) p ≡ at_window at (f, ts) p
      below l = ap (λ x. at_part at x (p / span)) (part_before (f + n) (drop n ts) (p % span) l) ∙ sym (nothing l)

      above : f + n ≤ p % span → at_window at (f + n, drop n ts) p ≡ at_window at (f, ts) p
      above l = ap (λ x. at_part at x (p / span)) (part_here (f + n) (drop n ts) (p % span) l ∙ get_drop ts n (p % span - (f + n)) (p % span - f) (omega (arith, l)) ∙ sym (part_here f ts (p % span) (omega (arith, l))))
