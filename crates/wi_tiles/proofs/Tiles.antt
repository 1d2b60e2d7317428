-- What a change of one bit, and of the list of values with it, makes of a tile.
use Rattle.wi_tiles.proofs.Words.{◌≡◌, ℕ, ◌+◌, ◌-◌, ◌*◌, ◌/◌, ◌%◌, ◌^◌, ◌<◌, ◌≤◌, List, [], ◌∷◌, length, Option, Some, None, sym, refl, ap, arith, suc, zero, ◌∙◌, slice_get, count_ones, ◌==◌, if◌then◌else◌, bit_and, bit_at, insert, remove, and_mask, one_shl, bit_at-lt, ◌≢◌, ◌⊎◌, inl, inr, ⊎_elim, get_or, slice_set, cases_lt, cases_eq, get_or-set_same, get_or-set_other, length-set, length-map-range_with_len, get_or-map-range_with_len, fill_by_all, slice_get-get_or, bit_not, w64, bit_or, or_lt, and_le_l, mod_below, pow_pos, bit_at_set_same, bit_at_set_other, bit_at_clear_same, bit_at_clear_other, shr_and_one, bit_at-zero, get_or_past, length-insert, length-remove, rank, at_bit, slots}
use Rattle.wi_tiles.proofs.Outcomes.{some_none}
use Rattle.wi_tiles.proofs.Ranks.{rank_grows, rank_below, rank-whole, rank_same, rank_set}

-- the count as the code makes it
pub rank_made : (n k : ℕ) → k < 64 → count_ones (bit_and n (1 * 2 ^ k % 2 ^ 64 - 1)) ≡ rank n k
rank_made n k h = ap (λ x. count_ones (bit_and n (x - 1))) (one_shl k 64 h) ∙ ap count_ones (and_mask n k)

get-insert_below : {V : Type 0} (xs : List V) (i : ℕ) (y : V) (k : ℕ) → i ≤ length xs → k < i → slice_get (insert xs i y) k ≡ slice_get xs k
get-insert_below xs zero y k h l = absurd (omega arith)
get-insert_below [] (suc i) y k h l = absurd (omega arith)
get-insert_below (x ∷ xs) (suc i) y zero h l = refl
get-insert_below (x ∷ xs) (suc i) y (suc k) h l = get-insert_below xs i y k (omega arith) (omega arith)

get-insert_at : {V : Type 0} (xs : List V) (i : ℕ) (y : V) → i ≤ length xs → slice_get (insert xs i y) i ≡ Some y
get-insert_at xs zero y h = refl
get-insert_at [] (suc i) y h = absurd (omega arith)
get-insert_at (x ∷ xs) (suc i) y h = get-insert_at xs i y (omega arith)

get-insert_above : {V : Type 0} (xs : List V) (i : ℕ) (y : V) (k : ℕ) → i ≤ length xs → i ≤ k → slice_get (insert xs i y) (suc k) ≡ slice_get xs k
get-insert_above xs zero y k h l = refl
get-insert_above [] (suc i) y k h l = absurd (omega arith)
get-insert_above (x ∷ xs) (suc i) y zero h l = absurd (omega arith)
get-insert_above (x ∷ xs) (suc i) y (suc k) h l = get-insert_above xs i y k (omega arith) (omega arith)

get-remove_below : {V : Type 0} (xs : List V) (i k : ℕ) → i < length xs → k < i → slice_get (remove xs i) k ≡ slice_get xs k
get-remove_below xs zero k h l = absurd (omega arith)
get-remove_below [] (suc i) k h l = absurd (omega arith)
get-remove_below (x ∷ xs) (suc i) zero h l = refl
get-remove_below (x ∷ xs) (suc i) (suc k) h l = get-remove_below xs i k (omega arith) (omega arith)

get-remove_above : {V : Type 0} (xs : List V) (i k : ℕ) → i < length xs → i ≤ k → slice_get (remove xs i) k ≡ slice_get xs (suc k)
get-remove_above [] zero k h l = absurd (omega arith)
get-remove_above (x ∷ xs) zero k h l = refl
get-remove_above [] (suc i) k h l = absurd (omega arith)
get-remove_above (x ∷ xs) (suc i) zero h l = absurd (omega arith)
get-remove_above (x ∷ xs) (suc i) (suc k) h l = get-remove_above xs i k (omega arith) (omega arith)

-- a bit is one or nothing stands there
pub at_one : {V : Type 0} (n : ℕ) (vs : List V) (i : ℕ) → bit_at n i ≡ 1 → at_bit n vs i ≡ slice_get vs (rank n i)
at_one n vs i e = ap (λ b. (if b == 1 then slice_get vs (rank n i) else None)) e

pub at_zero : {V : Type 0} (n : ℕ) (vs : List V) (i : ℕ) → bit_at n i ≡ 0 → at_bit n vs i ≡ None
at_zero n vs i e = ap (λ b. (if b == 1 then slice_get vs (rank n i) else None)) e

pub bit_or_not : (n i : ℕ) → (bit_at n i ≡ 1) ⊎ (bit_at n i ≡ 0)
bit_or_not n i = by_lt (bit_at n i) (bit_at-lt n i)
  where
    by_lt : (b : ℕ) → b < 2 → (b ≡ 1) ⊎ (b ≡ 0)
    by_lt b h = ⊎_elim (λ l. inr (omega arith)) (λ l. inl (omega arith)) (cases_lt b 1)

pub three : (i k : ℕ) → (i < k) ⊎ ((i ≡ k) ⊎ (k < i))
three i k = ⊎_elim (λ l. inl l) (λ l. inr (⊎_elim (λ m. inr m) (λ m. inl (omega arith)) (cases_lt k i))) (cases_lt i k)

rank_within : (n k : ℕ) → k < 64 → n < 2 ^ 64 → rank n k ≤ count_ones n
rank_within n k h b = omega (arith, rank_grows n k 64 (let l : k ≤ 64 = omega arith in l), rank-whole n b)

at_put_same : {V : Type 0} (m n k : ℕ) (vs : List V) (v : V) → bit_at m k ≡ 1 → bit_at n k ≡ 0 → ((i : ℕ) → i < 64 → i ≢ k → bit_at m i ≡ bit_at n i) → k < 64 → n < 2 ^ 64 → length vs ≡ count_ones n → at_bit m (insert vs (rank n k) v) k ≡ Some v
at_put_same m n k vs v set clear same h b full =
    let low : rank m k ≡ rank n k = rank_same m n k (λ i l. same i (omega arith) (λ z. omega (arith, z))) in
    let within : rank n k ≤ length vs = omega (arith, rank_within n k h b, full) in
    at_one m (insert vs (rank n k) v) k set ∙ ap (λ r. slice_get (insert vs (rank n k) v) r) low ∙ get-insert_at vs (rank n k) v within

at_put_other : {V : Type 0} (m n k : ℕ) (vs : List V) (v : V) → bit_at m k ≡ 1 → bit_at n k ≡ 0 → ((i : ℕ) → i < 64 → i ≢ k → bit_at m i ≡ bit_at n i) → k < 64 → n < 2 ^ 64 → length vs ≡ count_ones n → (i : ℕ) → i < 64 → i ≢ k → at_bit m (insert vs (rank n k) v) i ≡ at_bit n vs i
at_put_other {V} m n k vs v set clear same h b full i below apart =
    let within : rank n k ≤ length vs = omega (arith, rank_within n k h b, full) in
    let as_it_was : bit_at m i ≡ bit_at n i = same i below apart in
    ⊎_elim
    (λ one. at_one m (insert vs (rank n k) v) i (as_it_was ∙ one) ∙ moved within one (three i k) ∙ sym (at_one n vs i one))
    (λ none. at_zero m (insert vs (rank n k) v) i (as_it_was ∙ none) ∙ sym (at_zero n vs i none))
    (bit_or_not n i)
  where
    moved : rank n k ≤ length vs → bit_at n i ≡ 1 → (i < k) ⊎ ((i ≡ k) ⊎ (k < i)) → slice_get (insert vs (rank n k) v) (rank m i) ≡ slice_get vs (rank n i)
    moved within one (inl l) =
        let low : rank m i ≡ rank n i = rank_same m n i (λ j q. same j (omega arith) (λ z. omega (arith, z))) in
        ap (λ r. slice_get (insert vs (rank n k) v) r) low ∙ get-insert_below vs (rank n k) v (rank n i) within (rank_below n i k l one)
    moved within one (inr (inl e)) = absurd (apart e)
    moved within one (inr (inr l)) =
        let up : rank m i ≡ suc (rank n i) = omega (arith, rank_set m n k i set clear (λ j q z. same j (omega arith) z) l) in
        ap (λ r. slice_get (insert vs (rank n k) v) r) up ∙ get-insert_above vs (rank n k) v (rank n i) within (rank_grows n k i (omega arith))

pub length-slots : {V : Type 0} (n : ℕ) (vs : List V) → length (slots n vs) ≡ 64
unfolding slots
length-slots n vs = length-map-range_with_len (λ i. at_bit n vs i) 0 64

pub get-slots : {V : Type 0} (n : ℕ) (vs : List V) (i : ℕ) → i < 64 → (d : Option V) → get_or (slots n vs) i d ≡ at_bit n vs i
unfolding slots
get-slots n vs i h d = get_or-map-range_with_len (λ i. at_bit n vs i) 0 64 i i d h (omega arith)

-- a value more
pub slots-put : {V : Type 0} (m n k : ℕ) (vs : List V) (v : V) → bit_at m k ≡ 1 → bit_at n k ≡ 0 → ((i : ℕ) → i < 64 → i ≢ k → bit_at m i ≡ bit_at n i) → k < 64 → n < 2 ^ 64 → length vs ≡ count_ones n → slots m (insert vs (rank n k) v) ≡ slice_set (slots n vs) k (Some v)
unfolding slots
slots-put {V} m n k vs v set clear same h b full = sym (fill_by_all (λ i. at_bit m (insert vs (rank n k) v) i) (slice_set (slots n vs) k (Some v)) 64 None long each)
  where
    long : length (slice_set (slots n vs) k (Some v)) ≡ 64
    long = length-set (slots n vs) k (Some v) ∙ length-slots n vs

    each : (i : ℕ) → i < 64 → get_or (slice_set (slots n vs) k (Some v)) i None ≡ at_bit m (insert vs (rank n k) v) i
    each i l = ⊎_elim
        (λ e. ap (λ j. get_or (slice_set (slots n vs) k (Some v)) j None) e ∙ get_or-set_same (slots n vs) k (Some v) None (omega (arith, length-slots n vs)) ∙ sym (at_put_same m n k vs v set clear same h b full) ∙ ap (λ j. at_bit m (insert vs (rank n k) v) j) (sym e))
        (λ ne. get_or-set_other (slots n vs) k i (Some v) None ne ∙ get-slots n vs i l None ∙ sym (at_put_other m n k vs v set clear same h b full i l ne))
        (cases_eq i k)

-- a value less
pub remove_within : {V : Type 0} (n k : ℕ) (vs : List V) → bit_at n k ≡ 1 → k < 64 → n < 2 ^ 64 → length vs ≡ count_ones n → rank n k < length vs
remove_within n k vs one h b full = omega (arith, rank_below n k 64 h one, rank-whole n b, full)

at_cut_other : {V : Type 0} (m n k : ℕ) (vs : List V) → bit_at m k ≡ 0 → bit_at n k ≡ 1 → ((i : ℕ) → i < 64 → i ≢ k → bit_at m i ≡ bit_at n i) → k < 64 → n < 2 ^ 64 → length vs ≡ count_ones n → (i : ℕ) → i < 64 → i ≢ k → at_bit m (remove vs (rank n k)) i ≡ at_bit n vs i
at_cut_other {V} m n k vs clear set same h b full i below apart =
    let within : rank n k < length vs = remove_within n k vs set h b full in
    let as_it_was : bit_at m i ≡ bit_at n i = same i below apart in
    ⊎_elim
    (λ one. at_one m (remove vs (rank n k)) i (as_it_was ∙ one) ∙ moved within one (three i k) ∙ sym (at_one n vs i one))
    (λ none. at_zero m (remove vs (rank n k)) i (as_it_was ∙ none) ∙ sym (at_zero n vs i none))
    (bit_or_not n i)
  where
    moved : rank n k < length vs → bit_at n i ≡ 1 → (i < k) ⊎ ((i ≡ k) ⊎ (k < i)) → slice_get (remove vs (rank n k)) (rank m i) ≡ slice_get vs (rank n i)
    moved within one (inl l) =
        let low : rank m i ≡ rank n i = rank_same m n i (λ j q. same j (omega arith) (λ z. omega (arith, z))) in
        ap (λ r. slice_get (remove vs (rank n k)) r) low ∙ get-remove_below vs (rank n k) (rank n i) within (rank_below n i k l one)
    moved within one (inr (inl e)) = absurd (apart e)
    moved within one (inr (inr l)) =
        let up : suc (rank m i) ≡ rank n i = omega (arith, rank_set n m k i set clear (λ j q z. sym (same j (omega arith) z)) l) in
        get-remove_above vs (rank n k) (rank m i) within (omega (arith, up, rank_below n k i l set)) ∙ ap (λ r. slice_get vs r) up

pub slots-cut : {V : Type 0} (m n k : ℕ) (vs : List V) → bit_at m k ≡ 0 → bit_at n k ≡ 1 → ((i : ℕ) → i < 64 → i ≢ k → bit_at m i ≡ bit_at n i) → k < 64 → n < 2 ^ 64 → length vs ≡ count_ones n → slots m (remove vs (rank n k)) ≡ slice_set (slots n vs) k None
unfolding slots
slots-cut {V} m n k vs clear set same h b full = sym (fill_by_all (λ i. at_bit m (remove vs (rank n k)) i) (slice_set (slots n vs) k None) 64 None long each)
  where
    long : length (slice_set (slots n vs) k None) ≡ 64
    long = length-set (slots n vs) k None ∙ length-slots n vs

    each : (i : ℕ) → i < 64 → get_or (slice_set (slots n vs) k None) i None ≡ at_bit m (remove vs (rank n k)) i
    each i l = ⊎_elim
        (λ e. ap (λ j. get_or (slice_set (slots n vs) k None) j None) e ∙ get_or-set_same (slots n vs) k None None (omega (arith, length-slots n vs)) ∙ sym (at_zero m (remove vs (rank n k)) k clear) ∙ ap (λ j. at_bit m (remove vs (rank n k)) j) (sym e))
        (λ ne. get_or-set_other (slots n vs) k i None None ne ∙ get-slots n vs i l None ∙ sym (at_cut_other m n k vs clear set same h b full i l ne))
        (cases_eq i k)

-- what the code tests, and what it finds
pub none_found : {V : Type 0} (n : ℕ) (vs : List V) (k : ℕ) → k < 64 → bit_and (n / 2 ^ k) 1 ≡ 0 → get_or (slots n vs) k None ≡ None
none_found n vs k h e = get-slots n vs k h None ∙ at_zero n vs k (sym (shr_and_one n k) ∙ e)

pub tested : (n k : ℕ) → bit_and (n / 2 ^ k) 1 ≢ 0 → bit_at n k ≡ 1
tested n k ne = ⊎_elim (λ one. one) (λ none. absurd (ne (shr_and_one n k ∙ none))) (bit_or_not n k)

pub one_found : {V : Type 0} (n : ℕ) (vs : List V) (k : ℕ) → k < 64 → bit_and (n / 2 ^ k) 1 ≢ 0 → get_or (slots n vs) k None ≡ slice_get vs (rank n k)
one_found n vs k h ne = get-slots n vs k h None ∙ at_one n vs k (tested n k ne)

pub found_within : {V : Type 0} (n : ℕ) (vs : List V) (k : ℕ) → k < 64 → n < 2 ^ 64 → length vs ≡ count_ones n → bit_and (n / 2 ^ k) 1 ≢ 0 → rank n k < length vs
found_within n vs k h b full ne = remove_within n k vs (tested n k ne) h b full

pub put_within : {V : Type 0} (n : ℕ) (vs : List V) (k : ℕ) → k < 64 → n < 2 ^ 64 → length vs ≡ count_ones n → rank n k ≤ length vs
put_within n vs k h b full = omega (arith, rank_within n k h b, full)

vacant_clear : {V : Type 0} (n : ℕ) (vs : List V) (k : ℕ) → k < 64 → n < 2 ^ 64 → length vs ≡ count_ones n → get_or (slots n vs) k None ≡ None → bit_at n k ≡ 0
vacant_clear {V} n vs k h b full none = ⊎_elim (λ one. absurd (stands one)) (λ e. e) (bit_or_not n k)
  where
    stands : bit_at n k ≡ 1 → ⊥
    stands one = by_length vs (remove_within n k vs one h b full) (sym (at_one n vs k one) ∙ sym (get-slots n vs k h None) ∙ none)
      where
        by_length : (xs : List V) → rank n k < length xs → slice_get xs (rank n k) ≡ None → ⊥
        by_length [] l e = omega arith
        by_length (x ∷ xs) l e = some_none _ (sym (slice_get-get_or (x ∷ xs) (rank n k) x l) ∙ e)

-- the bits as the code changes them
pub slots_put_made : {V : Type 0} (n k : ℕ) (vs : List V) (v : V) → k < 64 → n < 2 ^ 64 → length vs ≡ count_ones n → get_or (slots n vs) k None ≡ None → slots (bit_or n (1 * 2 ^ k % 2 ^ 64)) (insert vs (rank n k) v) ≡ slice_set (slots n vs) k (Some v)
slots_put_made n k vs v h b full none = slots-put (bit_or n (1 * 2 ^ k % 2 ^ 64)) n k vs v (bit_at_set_same w64 n k h) (vacant_clear n vs k h b full none) (λ i l ne. bit_at_set_other w64 n k h i ne) h b full

pub put_full : {V : Type 0} (n k : ℕ) (vs : List V) (v : V) → k < 64 → n < 2 ^ 64 → length vs ≡ count_ones n → get_or (slots n vs) k None ≡ None → length (insert vs (rank n k) v) ≡ count_ones (bit_or n (1 * 2 ^ k % 2 ^ 64))
put_full n k vs v h b full none =
    let m : ℕ = bit_or n (1 * 2 ^ k % 2 ^ 64) in
    let below : m < 2 ^ 64 = or_lt 64 n (1 * 2 ^ k % 2 ^ 64) b (mod_below (1 * 2 ^ k) (2 ^ 64) (pow_pos 64)) in
    let one : rank m 64 ≡ rank n 64 + 1 = rank_set m n k 64 (bit_at_set_same w64 n k h) (vacant_clear n vs k h b full none) (λ i l ne. bit_at_set_other w64 n k h i ne) h in
    omega (arith, length-insert vs (rank n k) v (put_within n vs k h b full), one, rank-whole m below, rank-whole n b, full)

pub slots_cut_made : {V : Type 0} (n k : ℕ) (vs : List V) → k < 64 → n < 2 ^ 64 → length vs ≡ count_ones n → bit_and (n / 2 ^ k) 1 ≢ 0 → slots (bit_and n (bit_not w64 (1 * 2 ^ k % 2 ^ 64))) (remove vs (rank n k)) ≡ slice_set (slots n vs) k None
slots_cut_made n k vs h b full ne = slots-cut (bit_and n (bit_not w64 (1 * 2 ^ k % 2 ^ 64))) n k vs (bit_at_clear_same w64 n k h) (tested n k ne) (λ i l z. bit_at_clear_other w64 n k h i l z) h b full

pub cut_full : {V : Type 0} (n k : ℕ) (vs : List V) → k < 64 → n < 2 ^ 64 → length vs ≡ count_ones n → bit_and (n / 2 ^ k) 1 ≢ 0 → length (remove vs (rank n k)) ≡ count_ones (bit_and n (bit_not w64 (1 * 2 ^ k % 2 ^ 64)))
cut_full n k vs h b full ne =
    let m : ℕ = bit_and n (bit_not w64 (1 * 2 ^ k % 2 ^ 64)) in
    let below : m < 2 ^ 64 = omega (arith, and_le_l n (bit_not w64 (1 * 2 ^ k % 2 ^ 64)), b) in
    let one : rank n 64 ≡ rank m 64 + 1 = rank_set n m k 64 (tested n k ne) (bit_at_clear_same w64 n k h) (λ i l z. sym (bit_at_clear_other w64 n k h i l z)) h in
    omega (arith, length-remove vs (rank n k) (found_within n vs k h b full ne), one, rank-whole m below, rank-whole n b, full)

pub cut_none : {V : Type 0} (n k : ℕ) (vs : List V) → k < 64 → bit_and (n / 2 ^ k) 1 ≡ 0 → slots n vs ≡ slice_set (slots n vs) k None
cut_none n k vs h e = sym (set_itself (slots n vs) k None (none_found n vs k h e))
  where
    set_itself : {X : Type 0} (xs : List X) (k : ℕ) (d : X) → get_or xs k d ≡ d → slice_set xs k d ≡ xs
    set_itself [] k d e = refl
    set_itself (x ∷ xs) zero d e = ap (λ y. y ∷ xs) (sym e)
    set_itself (x ∷ xs) (suc k) d e = ap (λ ys. x ∷ ys) (set_itself xs k d e)

pub none_anywhere : {V : Type 0} (i : ℕ) → get_or (slots {V = V} 0 []) i None ≡ None
none_anywhere {V} i = ⊎_elim (λ l. get-slots 0 [] i l None ∙ at_zero 0 [] i (bit_at-zero i)) (λ m. get_or_past (slots 0 []) i None (omega (arith, length-slots {V = V} 0 []))) (cases_lt i 64)

pub there_put : {V : Type 0} (n k : ℕ) (vs : List V) (v : V) → k < 64 → n < 2 ^ 64 → length vs ≡ count_ones n → get_or (slots n vs) k None ≡ None → get_or (slots (bit_or n (1 * 2 ^ k % 2 ^ 64)) (insert vs (rank n k) v)) k None ≡ Some v
there_put n k vs v h b full none = ap (λ s. get_or s k None) (slots_put_made n k vs v h b full none) ∙ get_or-set_same (slots n vs) k (Some v) None (omega (arith, h, length-slots n vs))

-- a tile without a bit
pub all_clear : {V : Type 0} (n : ℕ) (vs : List V) → n ≡ 0 → (i : ℕ) → get_or (slots n vs) i None ≡ None
all_clear {V} n vs e i = ⊎_elim (λ l. get-slots n vs i l None ∙ at_zero n vs i (ap (λ m. bit_at m i) e ∙ bit_at-zero i)) (λ m. get_or_past (slots n vs) i None (omega (arith, length-slots n vs))) (cases_lt i 64)
