-- The bits of a tile that have something, and the first of some bits.
use Rattle.wi_tiles.proofs.Words.{◌≡◌, ℕ, Option, Some, ◌^◌, ◌<◌, List, [], ◌∷◌, length, None, sym, arith, ◌∙◌, ⊎_elim, get_or, zero, suc, subst, refl, ◌↔◌, IsTrue, ◌==◌, slice_get, count_ones, IsSome, bit_and, bit_at, w64, trailing_zeros, bit_at-trailing_zeros, cases_eq, eq-eqb, eqb-true, ◌≢◌, slot, rank, slots, filled, IsFirstLeft}
use Rattle.wi_tiles.proofs.MaskLemmas.{both_parts, both_from}
use Rattle.wi_tiles.proofs.Outcomes.{nothing_some}
use Rattle.wi_tiles.proofs.Ranks.{rank_below, rank_at_most}
use Rattle.wi_tiles.proofs.Tiles.{at_zero, at_one, get-slots, bit_or_not, all_clear}

is_some_within : {V : Type 0} (vs : List V) (r : ℕ) → r < length vs → IsSome (slice_get vs r)
is_some_within [] r h = absurd (omega arith)
is_some_within (v ∷ vs) zero h = refl
is_some_within (v ∷ vs) (suc r) h = is_some_within vs r (omega arith)

pub there_one : {V : Type 0} (n : ℕ) (vs : List V) (i : ℕ) → i < 64 → IsSome (get_or (slots n vs) i None) → bit_at n i ≡ 1
there_one {V} n vs i u there = ⊎_elim (λ one. one) (λ z. absurd (nothing_some V (subst (λ o. IsSome o) (get-slots n vs i u None ∙ at_zero n vs i z) there))) (bit_or_not n i)

pub one_within : {V : Type 0} (n : ℕ) (vs : List V) (i : ℕ) → i < 64 → length vs ≡ count_ones n → bit_at n i ≡ 1 → rank n i < length vs
one_within n vs i u full one = omega (arith, rank_below n i 64 u one, rank_at_most n, full)

pub one_there : {V : Type 0} (n : ℕ) (vs : List V) (i : ℕ) → i < 64 → length vs ≡ count_ones n → bit_at n i ≡ 1 → IsSome (get_or (slots n vs) i None)
one_there n vs i u full one = subst (λ o. IsSome o) (sym (get-slots n vs i u None ∙ at_one n vs i one)) (is_some_within vs (rank n i) (one_within n vs i u full one))

-- the bits of a mask that have something
pub masked_sound : {V : Type 0} (n m : ℕ) (vs : List V) (i : ℕ) → i < 64 → length vs ≡ count_ones n → bit_at (bit_and n m) i ≡ 1 → (bit_at m i ≡ 1) × IsSome (get_or (slots n vs) i None)
masked_sound n m vs i u full e =
    let p = both_parts n m i e in
    (p.1, one_there n vs i u full p.0)

pub masked_whole : {V : Type 0} (n m : ℕ) (vs : List V) (i : ℕ) → i < 64 → bit_at m i ≡ 1 → IsSome (get_or (slots n vs) i None) → bit_at (bit_and n m) i ≡ 1
masked_whole n m vs i u one there = both_from n m i (there_one n vs i u there) one

-- the first bit of a word
pub first_bit : (n : ℕ) → n ≢ 0 → n < 2 ^ 64 → (trailing_zeros w64 n < 64) × (bit_at n (trailing_zeros w64 n) ≡ 1) × ((i : ℕ) → i < trailing_zeros w64 n → bit_at n i ≡ 0)
first_bit n ne below = bit_at-trailing_zeros w64 n (omega (arith, ne)) below

pub first_value : {V : Type 0} (t : List (Option V)) (left place : ℕ) (v : V) → left ≢ 0 → left < 2 ^ 64 → filled t (trailing_zeros w64 left) ≡ place → slot t (trailing_zeros w64 left) ≡ Some v → IsFirstLeft t left (trailing_zeros w64 left) place v
first_value t left place v ne below count is = let first = first_bit left ne below in record { within = first.0; set = first.1; first = first.2; before = count; value = is }

-- a tile has no bits exactly where nothing stands
no_bits : {V : Type 0} (n : ℕ) (vs : List V) → n < 2 ^ 64 → length vs ≡ count_ones n → ((i : ℕ) → get_or (slots n vs) i None ≡ None) → n ≡ 0
no_bits {V} n vs below full nothing = ⊎_elim (λ e. e) (λ ne. absurd (some_bit ne)) (cases_eq n 0)
  where
    some_bit : n ≢ 0 → ⊥
    some_bit ne = let first = first_bit n ne below in nothing_some V (subst (λ o. IsSome o) (nothing (trailing_zeros w64 n)) (one_there n vs (trailing_zeros w64 n) first.0 full first.1))

pub bits_none : {V : Type 0} (n : ℕ) (vs : List V) → n < 2 ^ 64 → length vs ≡ count_ones n → IsTrue (n == 0) ↔ ((i : ℕ) → get_or (slots n vs) i None ≡ None)
bits_none n vs below full = (λ t. all_clear n vs (eqb-true n 0 t), λ nothing. eq-eqb n 0 (no_bits n vs below full nothing))
