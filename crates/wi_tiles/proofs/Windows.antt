-- What a change of one part, or a part more or less at an end, makes of all paths.
use Rattle.wi_tiles.proofs.Words.{◌≡◌, ℕ, ◌+◌, ◌-◌, ◌*◌, ◌/◌, ◌%◌, ◌<◌, ◌≤◌, List, [], ◌∷◌, ◌++◌, length, Option, Some, None, sym, ap, arith, ◌∙◌, ⊎_elim, zero, suc, refl, cond, slice_get, slice_set, slice_index_or, ◌==◌, if◌then◌else◌, cases_lt, slice_get_read, le-ltb, ◌≢◌, at_part, part_from, at_window, span, slice_get_past, got_in_front}
use borrow.Author.Tests.{lt-ltb}
use Rattle.wi_tiles.proofs.Digits.{IsDigit, digit_changed, digit_kept}

digit : IsDigit 256
digit p q r s = omega (arith, r, s)

-- the part at an index, from the first on and before it
pub part_here : {S : Type 0} (f : ℕ) (ts : List S) (i : ℕ) → f ≤ i → part_from (f, ts) i ≡ slice_get ts (i - f)
part_here f ts i l = ap (λ b. cond b None (slice_get ts (i - f))) (le-ltb i f l)

pub part_before : {S : Type 0} (f : ℕ) (ts : List S) (i : ℕ) → i < f → part_from (f, ts) i ≡ None
part_before f ts i l = ap (λ b. cond b None (slice_get ts (i - f))) (lt-ltb i f l)

pub part_read : {S : Type 0} (f : ℕ) (ts : List S) (i place : ℕ) (before : S) → f ≤ i → place ≡ i - f → place < length ts → before ≡ slice_index_or ts place before → part_from (f, ts) i ≡ Some before
part_read f ts i place before l is h read = part_here f ts i l ∙ ap (λ j. slice_get ts j) (sym is) ∙ slice_get_read ts (length ts) place before (λ _. length ts) h read

pub get_set : {S : Type 0} (ts : List S) (i : ℕ) (w : S) → i < length ts → slice_get (slice_set ts i w) i ≡ Some w
get_set [] i w l = absurd (omega arith)
get_set (x ∷ xs) zero w l = refl
get_set (x ∷ xs) (suc r) w l = get_set xs r w (omega arith)

pub get_other : {S : Type 0} (ts : List S) (i j : ℕ) (w : S) → j ≢ i → slice_get (slice_set ts i w) j ≡ slice_get ts j
get_other [] r j w ne = refl
get_other (x ∷ xs) zero zero w ne = absurd (ne refl)
get_other (x ∷ xs) zero (suc j) w ne = refl
get_other (x ∷ xs) (suc r) zero w ne = refl
get_other (x ∷ xs) (suc r) (suc j) w ne = get_other xs r j w (λ e. ne (ap suc e))

set_here : {S : Type 0} (f : ℕ) (ts : List S) (i place : ℕ) (w : S) → f ≤ i → place ≡ i - f → place < length ts → part_from (f, slice_set ts place w) i ≡ Some w
set_here f ts i place w l is h = part_here f (slice_set ts place w) i l ∙ ap (λ j. slice_get (slice_set ts place w) j) (sym is) ∙ get_set ts place w h

set_other : {S : Type 0} (f : ℕ) (ts : List S) (i place j : ℕ) (w : S) → f ≤ i → place ≡ i - f → j ≢ i → part_from (f, slice_set ts place w) j ≡ part_from (f, ts) j
set_other f ts i place j w l is ne = ⊎_elim
    (λ m. part_before f (slice_set ts place w) j m ∙ sym (part_before f ts j m))
    (λ m. part_here f (slice_set ts place w) j m ∙ get_other ts place (j - f) w (λ z. ne (omega (arith, z, is, l, m))) ∙ sym (part_here f ts j m))
    (cases_lt j f)

pub window_changed : {S V : Type 0} (at : S → ℕ → Option V) (f : ℕ) (ts : List S) (path place : ℕ) (before w : S) (o : Option V) → f ≤ path % span → place ≡ path % span - f → place < length ts → before ≡ slice_index_or ts place before → ((p : ℕ) → at w p ≡ (if p == path / span then o else at before p)) → (p : ℕ) → at_window at (f, slice_set ts place w) p ≡ (if p == path then o else at_window at (f, ts) p)
window_changed at f ts path place before w o l is h read changed = digit_changed span digit at (λ i. part_from (f, ts) i) (λ i. part_from (f, slice_set ts place w) i) path o
    (λ p. ap (λ x. at_part at x p) (set_here f ts (path % span) place w l is h) ∙ changed p ∙ ap (λ x. cond (p == path / span) o (at_part at x p)) (sym (part_read f ts (path % span) place before l is h read)))
    (λ j ne. set_other f ts (path % span) place j w l is ne)

pub window_kept : {S V : Type 0} (at : S → ℕ → Option V) (f : ℕ) (ts : List S) (place : ℕ) (before w : S) → place < length ts → before ≡ slice_index_or ts place before → ((p : ℕ) → at w p ≡ at before p) → (p : ℕ) → at_window at (f, slice_set ts place w) p ≡ at_window at (f, ts) p
window_kept at f ts place before w h read kept =
    let l : f ≤ f + place = omega arith in
    let is : place ≡ (f + place) - f = omega arith in
    digit_kept span digit at (λ i. part_from (f, ts) i) (λ i. part_from (f, slice_set ts place w) i) (f + place)
    (λ p. ap (λ x. at_part at x p) (set_here f ts (f + place) place w l is h) ∙ kept p ∙ ap (λ x. at_part at x p) (sym (part_read f ts (f + place) place before l is h read)))
    (λ j ne. set_other f ts (f + place) place j w l is ne)

-- and those before the first
get_behind : {S : Type 0} (vs ts : List S) (i j : ℕ) → i ≡ length vs + j → slice_get (vs ++ ts) i ≡ slice_get ts j
get_behind [] ts i j is = ap (λ k. slice_get ts k) (let z : i ≡ j = omega (arith, is) in z)
get_behind (v ∷ vs) ts zero j is = absurd (omega arith)
get_behind (v ∷ vs) ts (suc i) j is = get_behind vs ts i j (omega arith)

pub window_before : {S V : Type 0} (at : S → ℕ → Option V) (k f : ℕ) (vs ts : List S) → k + length vs ≡ f → ((p : ℕ) → at_window at (k, vs) p ≡ None) → (p : ℕ) → at_window at (k, vs ++ ts) p ≡ at_window at (f, ts) p
window_before at k f vs ts is nothing p = ⊎_elim below above (cases_lt (p % span) f)
  where
    below : p % span < f → at_window at (k, vs ++ ts) p ≡ at_window at (f, ts) p
    below l = ⊎_elim
        (λ m. ap (λ x. at_part at x (p / span)) (part_before k (vs ++ ts) (p % span) m ∙ sym (part_before f ts (p % span) l)))
        (λ m. ap (λ x. at_part at x (p / span)) (part_here k (vs ++ ts) (p % span) m ∙ got_in_front vs ts (p % span - k) (omega (arith, is, l, m)) ∙ sym (part_here k vs (p % span) m)) ∙ nothing p ∙ sym (ap (λ x. at_part at x (p / span)) (part_before f ts (p % span) l)))
        (cases_lt (p % span) k)

    above : f ≤ p % span → at_window at (k, vs ++ ts) p ≡ at_window at (f, ts) p
    above l = ap (λ x. at_part at x (p / span)) (part_here k (vs ++ ts) (p % span) (omega (arith, is, l)) ∙ get_behind vs ts (p % span - k) (p % span - f) (omega (arith, is, l)) ∙ sym (part_here f ts (p % span) l))

-- where there are no parts, any may be the first
none_from : {S : Type 0} (f i : ℕ) → part_from {S = S} (f, []) i ≡ None
none_from {S} f i = ⊎_elim (λ l. part_before {S = S} f [] i l) (λ l. part_here {S = S} f [] i l) (cases_lt i f)

pub window_none : {S V : Type 0} (at : S → ℕ → Option V) (f : ℕ) (ts : List S) → length ts ≡ 0 → (p : ℕ) → at_window at (f, ts) p ≡ None
window_none at f [] h p = ap (λ x. at_part at x (p / span)) (none_from f (p % span))
window_none at f (t ∷ ts) h p = absurd (omega arith)

-- what stands at a place
pub part_is : {S V : Type 0} (at : S → ℕ → Option V) (ts : List S) (n : ℕ) (x : S) (p : ℕ) → n < length ts → x ≡ slice_index_or ts n x → at_part at (slice_get ts n) p ≡ at x p
part_is at ts n x p l read = ap (λ y. at_part at y p) (slice_get_read ts (length ts) n x (λ _. length ts) l read)

-- where no path has anything, no part has
pub none_have : {S V : Type 0} (at : S → ℕ → Option V) (f : ℕ) (ts : List S) → f + length ts ≤ span → ((p : ℕ) → at_window at (f, ts) p ≡ None) → (i p : ℕ) → at_part at (slice_get ts i) p ≡ None
none_have at f ts bound nothing i p = ⊎_elim within (λ l. ap (λ x. at_part at x p) (slice_get_past ts i l)) (cases_lt i (length ts))
  where
    within : i < length ts → at_part at (slice_get ts i) p ≡ None
    within l =
        let path : ℕ = f + i + 256 * p in
        let low : path % 256 ≡ f + i = omega (arith, bound, l) in
        let high : path / 256 ≡ p = omega (arith, bound, l) in
        sym (ap (λ k. at_part at (part_from (f, ts) k) (path / 256)) low
        ∙ ap (λ x. at_part at x (path / 256)) (part_here f ts (f + i) (omega arith))
        ∙ ap (λ k. at_part at (slice_get ts k) (path / 256)) (let e : f + i - f ≡ i = omega arith in e)
        ∙ ap (λ k. at_part at (slice_get ts i) k) high)
        ∙ nothing path
