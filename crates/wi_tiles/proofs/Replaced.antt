-- Another value at a bit that has one.
use Rattle.wi_tiles.proofs.Words.{◌≡◌, ℕ, ◌/◌, ◌^◌, ◌<◌, List, [], ◌∷◌, length, Some, None, sym, ap, arith, ◌∙◌, ⊎_elim, get_or, zero, suc, refl, cond, slice_get, slice_set, slice_index_or, count_ones, option_map, bit_and, ◌==◌, if◌then◌else◌, bit_at, get_or-set_same, get_or-set_other, length-set, fill_by_all, slice_get_read, cases_eq, eq-eqb, ne_eqb, ◌≢◌, ◌⊎◌, inl, inr, rank, at_bit, slots}
use Rattle.wi_tiles.proofs.Ranks.{rank_below}
use Rattle.wi_tiles.proofs.Tiles.{at_zero, at_one, get-slots, length-slots, remove_within, bit_or_not, three, tested, one_found, none_found, found_within}

-- another part at a bit that has one
at_set_other : {P : Type 0} (n k : ℕ) (vs : List P) (w : P) → bit_at n k ≡ 1 → k < 64 → n < 2 ^ 64 → length vs ≡ count_ones n → (i : ℕ) → i < 64 → i ≢ k → at_bit n (slice_set vs (rank n k) w) i ≡ at_bit n vs i
at_set_other {P} n k vs w set h b full i l apart = ⊎_elim
    (λ one. at_one n (slice_set vs (rank n k) w) i one ∙ other one ∙ sym (at_one n vs i one))
    (λ none. at_zero n (slice_set vs (rank n k) w) i none ∙ sym (at_zero n vs i none))
    (bit_or_not n i)
  where
    get_other : (xs : List P) (r j : ℕ) → j ≢ r → slice_get (slice_set xs r w) j ≡ slice_get xs j
    get_other [] r j ne = refl
    get_other (x ∷ xs) zero zero ne = absurd (ne refl)
    get_other (x ∷ xs) zero (suc j) ne = refl
    get_other (x ∷ xs) (suc r) zero ne = refl
    get_other (x ∷ xs) (suc r) (suc j) ne = get_other xs r j (λ e. ne (ap suc e))

    differ : bit_at n i ≡ 1 → (i < k) ⊎ ((i ≡ k) ⊎ (k < i)) → rank n i ≢ rank n k
    differ one (inl m) = λ e. omega (arith, rank_below n i k m one, e)
    differ one (inr (inl e)) = absurd (apart e)
    differ one (inr (inr m)) = λ e. omega (arith, rank_below n k i m set, e)

    other : bit_at n i ≡ 1 → slice_get (slice_set vs (rank n k) w) (rank n i) ≡ slice_get vs (rank n i)
    other one = get_other vs (rank n k) (rank n i) (differ one (three i k))

pub slots-set : {P : Type 0} (n k : ℕ) (vs : List P) (w : P) → bit_at n k ≡ 1 → k < 64 → n < 2 ^ 64 → length vs ≡ count_ones n → slots n (slice_set vs (rank n k) w) ≡ slice_set (slots n vs) k (Some w)
unfolding slots
slots-set {P} n k vs w set h b full = sym (fill_by_all (λ i. at_bit n (slice_set vs (rank n k) w) i) (slice_set (slots n vs) k (Some w)) 64 None long each)
  where
    long : length (slice_set (slots n vs) k (Some w)) ≡ 64
    long = length-set (slots n vs) k (Some w) ∙ length-slots n vs

    get_same : (xs : List P) (r : ℕ) → r < length xs → slice_get (slice_set xs r w) r ≡ Some w
    get_same [] r l = absurd (omega arith)
    get_same (x ∷ xs) zero l = refl
    get_same (x ∷ xs) (suc r) l = get_same xs r (omega arith)

    each : (i : ℕ) → i < 64 → get_or (slice_set (slots n vs) k (Some w)) i None ≡ at_bit n (slice_set vs (rank n k) w) i
    each i l = ⊎_elim
        (λ e. ap (λ j. get_or (slice_set (slots n vs) k (Some w)) j None) e ∙ get_or-set_same (slots n vs) k (Some w) None (omega (arith, length-slots n vs)) ∙ sym (at_one n (slice_set vs (rank n k) w) k set ∙ get_same vs (rank n k) (remove_within n k vs set h b full)) ∙ ap (λ j. at_bit n (slice_set vs (rank n k) w) j) (sym e))
        (λ ne. get_or-set_other (slots n vs) k i (Some w) None ne ∙ get-slots n vs i l None ∙ sym (at_set_other n k vs w set h b full i l ne))
        (cases_eq i k)

-- what the code makes: the value read before, the other one after
pub replaced : {V : Type 0} (n k : ℕ) (vs : List V) (r : ℕ) (before : V) → r ≡ rank n k → k < 64 → n < 2 ^ 64 → length vs ≡ count_ones n → bit_and (n / 2 ^ k) 1 ≢ 0 → before ≡ slice_index_or vs r before → slice_index_or (slots n vs) k None ≡ Some before
replaced n k vs r before place h b full ne read = one_found n vs k h ne ∙ slice_get_read vs (length vs) (rank n k) before (λ _. length vs) (found_within n vs k h b full ne) (read ∙ ap (λ j. slice_index_or vs j before) place)

pub after_replace : {V : Type 0} (n k : ℕ) (vs : List V) (r : ℕ) (before w : V) → r ≡ rank n k → k < 64 → n < 2 ^ 64 → length vs ≡ count_ones n → bit_and (n / 2 ^ k) 1 ≢ 0 → before ≡ slice_index_or vs r before → (i : ℕ) → slice_index_or (slots n (slice_set vs r w)) i None ≡ (if i == k then option_map (λ _. w) (slice_index_or (slots n vs) k None) else slice_index_or (slots n vs) i None)
after_replace n k vs r before w place h b full ne read i = ap (λ s. slice_index_or s i None) (ap (λ j. slots n (slice_set vs j w)) place ∙ slots-set n k vs w (tested n k ne) h b full) ∙ ⊎_elim
    (λ e. ap (λ j. get_or (slice_set (slots n vs) k (Some w)) j None) e ∙ get_or-set_same (slots n vs) k (Some w) None (omega (arith, h, length-slots n vs)) ∙ ap (λ o. option_map (λ _. w) o) (sym (replaced n k vs r before place h b full ne read)) ∙ sym (ap (λ t. cond t (option_map (λ _. w) (slice_index_or (slots n vs) k None)) (slice_index_or (slots n vs) i None)) (eq-eqb i k e)))
    (λ z. get_or-set_other (slots n vs) k i (Some w) None z ∙ sym (ap (λ t. cond t (option_map (λ _. w) (slice_index_or (slots n vs) k None)) (slice_index_or (slots n vs) i None)) (ne_eqb i k z)))
    (cases_eq i k)

pub not_replaced : {V : Type 0} (n k : ℕ) (vs : List V) (w : V) → k < 64 → bit_and (n / 2 ^ k) 1 ≡ 0 → (i : ℕ) → slice_index_or (slots n vs) i None ≡ (if i == k then option_map (λ _. w) (slice_index_or (slots n vs) k None) else slice_index_or (slots n vs) i None)
not_replaced n k vs w h none i = ⊎_elim
    (λ e. ap (λ j. slice_index_or (slots n vs) j None) e ∙ none_found n vs k h none ∙ ap (λ o. option_map (λ _. w) o) (sym (none_found n vs k h none)) ∙ sym (ap (λ t. cond t (option_map (λ _. w) (slice_index_or (slots n vs) k None)) (slice_index_or (slots n vs) i None)) (eq-eqb i k e)))
    (λ z. sym (ap (λ t. cond t (option_map (λ _. w) (slice_index_or (slots n vs) k None)) (slice_index_or (slots n vs) i None)) (ne_eqb i k z)))
    (cases_eq i k)
