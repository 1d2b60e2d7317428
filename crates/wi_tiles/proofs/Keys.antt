-- Parts in order of their keys.
use Rattle.wi_tiles.proofs.Words.{◌≡◌, ℕ, ◌+◌, ◌<◌, ◌≤◌, List, [], ◌∷◌, length, Some, None, sym, ap, arith, ◌∙◌, ⊎_elim, zero, suc, refl, cond, eqb, slice_set, slice_index_or, insert, remove, length-insert, length-remove, length-set, cases_lt, eq-eqb, ne_eqb, ◌≢◌, find, key, Rises}

pub key_read : {S : Type 0} (ts : List (ℕ × S)) (i : ℕ) (x : ℕ × S) → i < length ts → x ≡ slice_index_or ts i x → key ts i ≡ x.0
key_read [] i x l e = absurd (omega arith)
key_read (t ∷ ts) zero x l e = ap (λ y. y.0) (sym e)
key_read (t ∷ ts) (suc i) x l e = key_read ts i x (omega arith) e

pub below_more : {S : Type 0} (ts : List (ℕ × S)) (m g : ℕ) (x : ℕ × S) → Rises ts → m < length ts → x ≡ slice_index_or ts m x → x.0 < g → (i : ℕ) → i < m + 1 → key ts i < g
below_more ts m g x rises l read less i h = ⊎_elim (λ q. omega (arith, rises i m q l, key_read ts m x l read, less)) (λ q. omega (arith, ap (λ j. key ts j) (let e : i ≡ m = omega arith in e), key_read ts m x l read, less)) (cases_lt i m)

pub above_more : {S : Type 0} (ts : List (ℕ × S)) (m g : ℕ) (x : ℕ × S) → Rises ts → m < length ts → x ≡ slice_index_or ts m x → g ≤ x.0 → (i : ℕ) → m ≤ i → i < length ts → g ≤ key ts i
above_more ts m g x rises l read less i h k = ⊎_elim (λ q. omega (arith, rises m i q k, key_read ts m x l read, less)) (λ q. omega (arith, ap (λ j. key ts j) (let e : i ≡ m = omega arith in e), key_read ts m x l read, less)) (cases_lt m i)

-- a key that stands at one place is found there
pub find_at : {S : Type 0} (ts : List (ℕ × S)) (i g : ℕ) (x : ℕ × S) → i < length ts → x ≡ slice_index_or ts i x → x.0 ≡ g → ((j : ℕ) → j < i → key ts j < g) → find g ts ≡ Some x.1
find_at [] i g x l read e before = absurd (omega arith)
find_at (t ∷ ts) zero g x l read e before = ap (λ y. cond (eqb y.0 g) (Some y.1) (find g ts)) (sym read) ∙ ap (λ b. cond b (Some x.1) (find g ts)) (eq-eqb x.0 g e)
find_at (t ∷ ts) (suc i) g x l read e before = ap (λ b. cond b (Some t.1) (find g ts)) (ne_eqb t.0 g (λ z. omega (arith, before zero (omega arith), z))) ∙ find_at ts i g x (omega arith) read e (λ j q. before (suc j) (omega arith))

-- and one that stands nowhere isn't
pub find_none : {S : Type 0} (ts : List (ℕ × S)) (g : ℕ) → ((j : ℕ) → j < length ts → key ts j ≢ g) → find g ts ≡ None
find_none [] g apart = refl
find_none (t ∷ ts) g apart = ap (λ b. cond b (Some t.1) (find g ts)) (ne_eqb t.0 g (apart zero (omega arith))) ∙ find_none ts g (λ j q. apart (suc j) (omega arith))

pub find_beyond : {S : Type 0} (ts : List (ℕ × S)) (r g : ℕ) → r ≤ length ts → ((i : ℕ) → i < r → key ts i < g) → ((i : ℕ) → r ≤ i → i < length ts → g < key ts i) → find g ts ≡ None
find_beyond ts r g h below above = find_none ts g (λ j q. ⊎_elim (λ l z. omega (arith, below j l, z)) (λ l z. omega (arith, above j l q, z)) (cases_lt j r))

-- a new part among the others
pub find-insert_other : {S : Type 0} (ts : List (ℕ × S)) (i g q : ℕ) (s : S) → i ≤ length ts → q ≢ g → find q (insert ts i (g, s)) ≡ find q ts
find-insert_other ts zero g q s h ne = ap (λ b. cond b (Some s) (find q ts)) (ne_eqb g q (λ z. ne (sym z)))
find-insert_other [] (suc i) g q s h ne = absurd (omega arith)
find-insert_other (t ∷ ts) (suc i) g q s h ne = ap (λ o. cond (eqb t.0 q) (Some t.1) o) (find-insert_other ts i g q s (omega arith) ne)

pub find-insert_same : {S : Type 0} (ts : List (ℕ × S)) (i g : ℕ) (s : S) → i ≤ length ts → ((j : ℕ) → j < i → key ts j < g) → find g (insert ts i (g, s)) ≡ Some s
find-insert_same ts zero g s h before = ap (λ b. cond b (Some s) (find g ts)) (eq-eqb g g refl)
find-insert_same [] (suc i) g s h before = absurd (omega arith)
find-insert_same (t ∷ ts) (suc i) g s h before = ap (λ b. cond b (Some t.1) (find g (insert ts i (g, s)))) (ne_eqb t.0 g (λ z. omega (arith, before zero (omega arith), z))) ∙ find-insert_same ts i g s (omega arith) (λ j q. before (suc j) (omega arith))

-- another part under a key that stands
pub find-set_other : {S : Type 0} (ts : List (ℕ × S)) (i q : ℕ) (w : ℕ × S) → key ts i ≡ w.0 → q ≢ w.0 → find q (slice_set ts i w) ≡ find q ts
find-set_other [] i q w same ne = refl
find-set_other (t ∷ ts) zero q w same ne = ap (λ b. cond b (Some w.1) (find q ts)) (ne_eqb w.0 q (λ z. ne (sym z))) ∙ sym (ap (λ b. cond b (Some t.1) (find q ts)) (ne_eqb t.0 q (λ z. ne (sym (sym same ∙ z)))))
find-set_other (t ∷ ts) (suc i) q w same ne = ap (λ o. cond (eqb t.0 q) (Some t.1) o) (find-set_other ts i q w same ne)

pub find-set_same : {S : Type 0} (ts : List (ℕ × S)) (i : ℕ) (w : ℕ × S) → i < length ts → ((j : ℕ) → j < i → key ts j < w.0) → find w.0 (slice_set ts i w) ≡ Some w.1
find-set_same [] i w h before = absurd (omega arith)
find-set_same (t ∷ ts) zero w h before = ap (λ b. cond b (Some w.1) (find w.0 ts)) (eq-eqb w.0 w.0 refl)
find-set_same (t ∷ ts) (suc i) w h before = ap (λ b. cond b (Some t.1) (find w.0 (slice_set ts i w))) (ne_eqb t.0 w.0 (λ z. omega (arith, before zero (omega arith), z))) ∙ find-set_same ts i w (omega arith) (λ j q. before (suc j) (omega arith))

-- the keys after both
pub key-set : {S : Type 0} (ts : List (ℕ × S)) (i : ℕ) (w : ℕ × S) → key ts i ≡ w.0 → (j : ℕ) → key (slice_set ts i w) j ≡ key ts j
key-set [] i w same j = refl
key-set (t ∷ ts) zero w same zero = sym same
key-set (t ∷ ts) zero w same (suc j) = refl
key-set (t ∷ ts) (suc i) w same zero = refl
key-set (t ∷ ts) (suc i) w same (suc j) = key-set ts i w same j

pub key-insert_below : {S : Type 0} (ts : List (ℕ × S)) (i : ℕ) (w : ℕ × S) (j : ℕ) → i ≤ length ts → j < i → key (insert ts i w) j ≡ key ts j
key-insert_below ts zero w j h l = omega arith
key-insert_below [] (suc i) w j h l = omega arith
key-insert_below (t ∷ ts) (suc i) w zero h l = refl
key-insert_below (t ∷ ts) (suc i) w (suc j) h l = key-insert_below ts i w j (omega arith) (omega arith)

pub key-insert_at : {S : Type 0} (ts : List (ℕ × S)) (i : ℕ) (w : ℕ × S) → i ≤ length ts → key (insert ts i w) i ≡ w.0
key-insert_at ts zero w h = refl
key-insert_at [] (suc i) w h = absurd (omega arith)
key-insert_at (t ∷ ts) (suc i) w h = key-insert_at ts i w (omega arith)

pub key-insert_above : {S : Type 0} (ts : List (ℕ × S)) (i : ℕ) (w : ℕ × S) (j : ℕ) → i ≤ length ts → i ≤ j → key (insert ts i w) (suc j) ≡ key ts j
key-insert_above ts zero w j h l = refl
key-insert_above [] (suc i) w j h l = absurd (omega arith)
key-insert_above (t ∷ ts) (suc i) w zero h l = absurd (omega arith)
key-insert_above (t ∷ ts) (suc i) w (suc j) h l = key-insert_above ts i w j (omega arith) (omega arith)

pub just_above : {S : Type 0} (ts : List (ℕ × S)) (r g : ℕ) (x : ℕ × S) → Rises ts → r < length ts → x ≡ slice_index_or ts r x → x.0 ≢ g → ((i : ℕ) → r ≤ i → i < length ts → g ≤ key ts i) → (i : ℕ) → r ≤ i → i < length ts → g < key ts i
just_above ts r g x rises h read ne above i l q = ⊎_elim
    (λ m. omega (arith, rises r i m q, above r (omega arith) h))
    (λ m. omega (arith, ap (λ j. key ts j) (let e : i ≡ r = omega arith in e), above i l q, key_read ts r x h read, ne))
    (cases_lt r i)

pub Rises-insert : {S : Type 0} (ts : List (ℕ × S)) (r g : ℕ) (s : S) → Rises ts → r ≤ length ts → ((i : ℕ) → i < r → key ts i < g) → ((i : ℕ) → r ≤ i → i < length ts → g < key ts i) → Rises (insert ts r (g, s))
Rises-insert {S} ts r g s rises h below above i zero l q = absurd (omega arith)
Rises-insert {S} ts r g s rises h below above i (suc j) l q = ⊎_elim
    (λ low. omega (arith, key-insert_below ts r (g, s) (suc j) h low, key-insert_below ts r (g, s) i h (omega arith), rises i (suc j) l (omega arith)))
    (λ high. ⊎_elim
    (λ more. above_it (omega arith))
    (λ e. let same : suc j ≡ r = omega arith in omega (arith, ap (λ k. key (insert ts r (g, s)) k) same, key-insert_at ts r (g, s) h, key-insert_below ts r (g, s) i h (omega arith), below i (omega arith)))
    (cases_lt r (suc j)))
    (cases_lt (suc j) r)
  where
    long : j < length ts
    long = omega (arith, length-insert ts r (g, s) h)

    above_it : r ≤ j → key (insert ts r (g, s)) i < key (insert ts r (g, s)) (suc j)
    above_it m = ⊎_elim
        (λ low. omega (arith, key-insert_above ts r (g, s) j h m, key-insert_below ts r (g, s) i h low, below i low, above j m long))
        (λ high. at_or_above i l high)
        (cases_lt i r)
      where
        at_or_above : (k : ℕ) → k < suc j → r ≤ k → key (insert ts r (g, s)) k < key (insert ts r (g, s)) (suc j)
        at_or_above k l high = ⊎_elim
            (λ more. past k l more)
            (λ e. let same : k ≡ r = omega arith in omega (arith, ap (λ z. key (insert ts r (g, s)) z) same, key-insert_at ts r (g, s) h, key-insert_above ts r (g, s) j h m, above j m long))
            (cases_lt r k)
          where
            past : (k : ℕ) → k < suc j → r < k → key (insert ts r (g, s)) k < key (insert ts r (g, s)) (suc j)
            past zero l more = omega arith
            past (suc k) l more = omega (arith, key-insert_above ts r (g, s) k h (omega arith), key-insert_above ts r (g, s) j h m, rises k j (omega arith) long)

pub Rises-set : {S : Type 0} (ts : List (ℕ × S)) (r : ℕ) (w : ℕ × S) → Rises ts → key ts r ≡ w.0 → Rises (slice_set ts r w)
Rises-set ts r w rises same i j l q = omega (arith, key-set ts r w same i, key-set ts r w same j, rises i j l (omega (arith, length-set ts r w)))

-- a part less
pub find-remove_other : {S : Type 0} (ts : List (ℕ × S)) (i q : ℕ) → i < length ts → q ≢ key ts i → find q (remove ts i) ≡ find q ts
find-remove_other [] i q h ne = absurd (omega arith)
find-remove_other (t ∷ ts) zero q h ne = sym (ap (λ b. cond b (Some t.1) (find q ts)) (ne_eqb t.0 q (λ z. ne (sym z))))
find-remove_other (t ∷ ts) (suc i) q h ne = ap (λ o. cond (eqb t.0 q) (Some t.1) o) (find-remove_other ts i q (omega arith) ne)

key-remove_below : {S : Type 0} (ts : List (ℕ × S)) (i j : ℕ) → i < length ts → j < i → key (remove ts i) j ≡ key ts j
key-remove_below ts zero j h l = omega arith
key-remove_below [] (suc i) j h l = omega arith
key-remove_below (t ∷ ts) (suc i) zero h l = refl
key-remove_below (t ∷ ts) (suc i) (suc j) h l = key-remove_below ts i j (omega arith) (omega arith)

key-remove_above : {S : Type 0} (ts : List (ℕ × S)) (i j : ℕ) → i < length ts → i ≤ j → key (remove ts i) j ≡ key ts (suc j)
key-remove_above [] zero j h l = absurd (omega arith)
key-remove_above (t ∷ ts) zero j h l = refl
key-remove_above [] (suc i) j h l = absurd (omega arith)
key-remove_above (t ∷ ts) (suc i) zero h l = absurd (omega arith)
key-remove_above (t ∷ ts) (suc i) (suc j) h l = key-remove_above ts i j (omega arith) (omega arith)

pub find-remove_same : {S : Type 0} (ts : List (ℕ × S)) (i : ℕ) → Rises ts → i < length ts → find (key ts i) (remove ts i) ≡ None
find-remove_same ts i rises h = find_none (remove ts i) (key ts i) (λ j q. ⊎_elim
    (λ l z. omega (arith, key-remove_below ts i j h l, rises j i l h, z))
    (λ l z. omega (arith, key-remove_above ts i j h l, rises i (suc j) (let m : i < suc j = omega arith in m) (let m : suc j < length ts = omega (arith, q, length-remove ts i h) in m), z))
    (cases_lt j i))

pub Rises-remove : {S : Type 0} (ts : List (ℕ × S)) (r : ℕ) → Rises ts → r < length ts → Rises (remove ts r)
Rises-remove ts r rises h i j l q = ⊎_elim
    (λ low. omega (arith, key-remove_below ts r i h (let m : i < r = omega arith in m), key-remove_below ts r j h low, rises i j l (let m : j < length ts = omega (arith, q, length-remove ts r h) in m)))
    (λ high. ⊎_elim
    (λ low. omega (arith, key-remove_below ts r i h low, key-remove_above ts r j h high, rises i (suc j) (let m : i < suc j = omega arith in m) (let m : suc j < length ts = omega (arith, q, length-remove ts r h) in m)))
    (λ both. omega (arith, key-remove_above ts r i h both, key-remove_above ts r j h high, rises (suc i) (suc j) (let m : suc i < suc j = omega arith in m) (let m : suc j < length ts = omega (arith, q, length-remove ts r h) in m)))
    (cases_lt i r))
    (cases_lt j r)
