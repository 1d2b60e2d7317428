-- How many of a tile's first bits have something.
use Rattle.wi_tiles.proofs.Words.{◌≡◌, ℕ, ◌+◌, ◌-◌, ◌/◌, ◌^◌, ◌<◌, ◌≤◌, List, length, Option, Some, None, sym, ap, arith, ◌∙◌, ⊎_elim, zero, suc, get_or, subst, refl, ◌&&◌, ◌==◌, nat_le, IsSome, is_some, if◌then◌else◌, count_ones, slice_get, slice_index_or, bit_at, w64, trailing_zeros, cases_lt, and_from, le-leb, slice_get_read, eqb-true, ◌≢◌, Area, slot, rank, slots, filled, CountsFirst, IsWhole, IsFirstLeft, HasBits, one_at_most}
use Rattle.wi_tiles.proofs.Firsts.{there_one, one_there, one_within, first_bit}
use Rattle.wi_tiles.proofs.Ranks.{rank-suc, rank-zero, rank_at_most}
use Rattle.wi_tiles.proofs.Tiles.{at_zero, at_one, get-slots, bit_or_not}
use Rattle.wi_tiles.proofs.WalkLemmas.{nothing_but}

filled_zero : {V : Type 0} (t : List (Option V)) → filled t 0 ≡ 0
unfolding filled
filled_zero t = refl

filled_suc : {V : Type 0} (t : List (Option V)) (n : ℕ) → filled t (suc n) ≡ filled t n + (if is_some (slot t n) then 1 else 0)
unfolding filled
filled_suc t n = refl

pub filled_there : {V : Type 0} (t : List (Option V)) (b : ℕ) → IsSome (slot t b) → filled t (suc b) ≡ filled t b + 1
filled_there t b there = filled_suc t b ∙ ap (λ q. filled t b + (if q then 1 else 0)) there

filled_clear : {V : Type 0} (t : List (Option V)) (b : ℕ) → slot t b ≡ None → filled t (suc b) ≡ filled t b
filled_clear t b none = filled_suc t b ∙ ap (λ o. filled t b + (if is_some o then 1 else 0)) none ∙ (let e : filled t b + 0 ≡ filled t b = omega arith in e)

pub filled_small : {V : Type 0} (t : List (Option V)) (n : ℕ) → filled t n ≤ n
filled_small t zero = omega (arith, filled_zero t)
filled_small t (suc n) = omega (arith, filled_suc t n, filled_small t n, one_at_most (is_some (slot t n)))

filled_grows : {V : Type 0} (t : List (Option V)) (i j : ℕ) → i ≤ j → filled t i ≤ filled t j
filled_grows t i zero h = omega (arith, ap (λ k. filled t k) (let e : i ≡ 0 = omega arith in e))
filled_grows t i (suc j) h = ⊎_elim
    (λ l. omega (arith, filled_suc t j, filled_grows t i j (omega (arith, l))))
    (λ l. omega (arith, ap (λ k. filled t k) (let e : i ≡ suc j = omega (arith, l, h) in e)))
    (cases_lt i (suc j))

pub filled_below : {V : Type 0} (t : List (Option V)) (b : ℕ) → b < 64 → IsSome (slot t b) → filled t b < filled t 64
filled_below t b h there = omega (arith, filled_there t b there, filled_grows t (suc b) 64 (let l : suc b ≤ 64 = omega arith in l))

filled_past : {V : Type 0} (t : List (Option V)) (b d : ℕ) → ((k : ℕ) → suc b ≤ k → k < suc b + d → slot t k ≡ None) → filled t (suc b + d) ≡ filled t (suc b)
filled_past t b zero none = ap (λ k. filled t k) (let e : suc b + 0 ≡ suc b = omega arith in e)
filled_past t b (suc d) none =
    ap (λ k. filled t k) (let e : suc b + suc d ≡ suc (suc b + d) = omega arith in e)
    ∙ filled_clear t (suc b + d) (none (suc b + d) (omega arith) (omega arith))
    ∙ filled_past t b d (λ k l u. none k l (omega (arith, u)))

-- where the first of the bits that are left goes
module _ {V : Type 0} (t : List (Option V)) (left after b place : ℕ) (v : V) (found : IsFirstLeft t left b place v) (cleared : bit_at after b ≡ 0) (others : (i : ℕ) → i < 64 → i ≢ b → bit_at after i ≡ bit_at left i) (whole : IsWhole t left) where
  stays : (i : ℕ) → i < 64 → bit_at after i ≡ 1 → (b < i) × (bit_at left i ≡ 1)
  stays i u e =
      let ne : i ≢ b = λ z. omega (arith, sym (ap (λ k. bit_at after k) z) ∙ e, cleared) in
      let one : bit_at left i ≡ 1 = sym (others i u ne) ∙ e in
      (⊎_elim (λ l. absurd (omega (arith, found.first i l, one))) (λ l. omega (arith, l, ne)) (cases_lt i b), one)

  there : IsSome (slot t b)
  there = subst (λ o. IsSome o) (sym found.value) refl

  pub counts_next : CountsFirst t after (place + 1)
  counts_next c u one none =
      let p = stays c u one in
      let later : b < c = p.0 in
      ap (λ k. filled t k) (let e : c ≡ suc b + (c - suc b) = omega (arith, later) in e)
      ∙ filled_past t b (c - suc b) (λ k l m. nothing_but (slot t k) (λ some.
      let set : bit_at left k ≡ 1 = whole b c k (omega (arith, l)) (omega (arith, m, later)) u found.set p.1 some in
      omega (arith, none k (omega (arith, m, later)), others k (omega (arith, m, later, u)) (λ z. omega (arith, l, z)) ∙ set)))
      ∙ filled_there t b there
      ∙ ap (λ k. k + 1) found.before

  pub whole_next : IsWhole t after
  whole_next i j k l m u e f some =
      let p = stays i (omega (arith, l, m, u)) e in
      let q = stays j u f in
      others k (omega (arith, m, u)) (λ z. omega (arith, l, z, p.0)) ∙ whole i j k l m u p.1 q.1 some

-- the count before the first bit
pub first_counts : {V : Type 0} (t : List (Option V)) (left before : ℕ) → left ≢ 0 → left < 2 ^ 64 → before ≡ filled t (trailing_zeros w64 left) → CountsFirst t left before
first_counts t left before ne below is b u one none =
    let first = first_bit left ne below in
    let same : b ≡ trailing_zeros w64 left = ⊎_elim
    (λ l. absurd (omega (arith, first.2 b l, one)))
    (λ l. ⊎_elim (λ m. absurd (omega (arith, none (trailing_zeros w64 left) m, first.1))) (λ m. omega (arith, l, m)) (cases_lt (trailing_zeros w64 left) b))
    (cases_lt b (trailing_zeros w64 left)) in
    ap (λ k. filled t k) same ∙ sym is

-- the bits of one line have no others between them
pub line_whole : {V : Type 0} (r : Area) (t : List (Option V)) (g column line left : ℕ) → HasBits r t g column line line left → IsWhole t left
line_whole r t g column line left bits i j k l m u e f some =
    let p = (bits.sound i (omega (arith, l, m, u)) e).0 in
    let q = (bits.sound j u f).0 in
    let in_line : k / 4 ≡ line = omega (arith, l, m, p.0, p.1, q.0, q.1) in
    bits.whole k (omega (arith, m, u)) (omega (arith, in_line), omega (arith, in_line), omega (arith, p.2, in_line, p.0, p.1, l), omega (arith, q.3, in_line, q.0, q.1, m)) some

-- and those of several lines, if they are all
pub lines_whole : {V : Type 0} (r : Area) (t : List (Option V)) (g column top bottom left all rows : ℕ) → HasBits r t g column top bottom left → all ≡ left → ((i : ℕ) → i < 64 → (bit_at rows i == 1) ≡ (nat_le top (i / 4) && nat_le (i / 4) bottom)) → ((i : ℕ) → i < 64 → bit_at rows i ≡ 1 → IsSome (slot t i) → bit_at all i ≡ 1) → IsWhole t left
lines_whole r t g column top bottom left all rows bits same between whole i j k l m u e f some =
    let p = (bits.sound i (omega (arith, l, m, u)) e).0 in
    let q = (bits.sound j u f).0 in
    let h : k < 64 = omega (arith, m, u) in
    let low : top ≤ k / 4 = omega (arith, p.0, l) in
    let high : k / 4 ≤ bottom = omega (arith, q.1, m) in
    sym (ap (λ n. bit_at n k) same) ∙ whole k h (eqb-true _ _ (between k h ∙ and_from (nat_le top (k / 4)) (nat_le (k / 4) bottom) (le-leb top (k / 4) low) (le-leb (k / 4) bottom high))) some

-- the count is the rank
pub rank_filled : {V : Type 0} (n : ℕ) (vs : List V) (k : ℕ) → k ≤ 64 → length vs ≡ count_ones n → rank n k ≡ filled (slots n vs) k
rank_filled n vs zero h full = rank-zero n ∙ sym (filled_zero (slots n vs))
rank_filled n vs (suc k) h full =
    let less : k < 64 = omega arith in
    let same : rank n k ≡ filled (slots n vs) k = rank_filled n vs k (omega arith) full in
    ⊎_elim
    (λ one. omega (arith, rank-suc n k, same, one, filled_there (slots n vs) k (one_there n vs k less full one)))
    (λ none. omega (arith, rank-suc n k, same, none, filled_clear (slots n vs) k (get-slots n vs k less None ∙ at_zero n vs k none)))
    (bit_or_not n k)

pub filled_within : {V : Type 0} (n : ℕ) (vs : List V) → length vs ≡ count_ones n → filled (slots n vs) 64 ≤ length vs
filled_within n vs full = omega (arith, rank_filled n vs 64 (omega arith) full, rank_at_most n, full)

pub value_is : {V : Type 0} (n : ℕ) (vs : List V) (place : ℕ) (v : V) → length vs ≡ count_ones n → v ≡ slice_index_or vs place v → (i : ℕ) → i < 64 → IsSome (get_or (slots n vs) i None) → filled (slots n vs) i ≡ place → get_or (slots n vs) i None ≡ Some v
value_is n vs place v full read i u there is =
    let one = there_one n vs i u there in
    let at : rank n i ≡ place = rank_filled n vs i (omega (arith, u)) full ∙ is in
    let within : place < length vs = omega (arith, at, one_within n vs i u full one) in
    get-slots n vs i u None ∙ at_one n vs i one ∙ ap (λ r. slice_get vs r) at ∙ slice_get_read vs (length vs) place v (λ _. length vs) within read
