-- The bits of a rectangle's columns, and of some of a band's lines.
use Rattle.wi_tiles.proofs.Words.{◌≡◌, ℕ, ◌+◌, ◌-◌, ◌*◌, ◌/◌, ◌%◌, ◌^◌, ◌<◌, ◌≤◌, sym, ap, arith, ◌∙◌, ⊎_elim, zero, suc, refl, true, false, ◌&&◌, ◌==◌, nat_le, nat_lt, min, max, not, bit_and, bit_at, cases_eq, and_parts, and_from, leb-true, le-leb, lt-ltb, and_le_l, shr_le, bit_at-lt, bit_at_and, ltb-true, eqb-true, eq-eqb, Area, column_of, HasEach, line_of, lines_of, lines_from, lines_to, IsInside}
use Rattle.std.proofs.Common.{Bool}
use Rattle.wi_tiles.proofs.WalkLemmas.{same_test}

pub line_within : (low high : ℕ) → line_of low high ≤ 15
line_within low high = omega (arith, and_le_l (15 / 2 ^ (4 - high)) (15 * 2 ^ low % 2 ^ 64), shr_le 15 (4 - high))

-- a test of all numbers below one
abbrev all_below : (ℕ → Bool) → ℕ → Bool
all_below p zero = true
all_below p (suc n) = p n && all_below p n

one_of : (p : ℕ → Bool) (n i : ℕ) → all_below p n ≡ true → i < n → p i ≡ true
one_of p zero i h l = absurd (omega arith)
one_of p (suc n) i h l = let q = and_parts (p n) (all_below p n) h in ⊎_elim (λ e. ap p e ∙ q.0) (λ ne. one_of p n i q.1 (omega (arith, ne))) (cases_eq i n)

abbrev agree : Bool → Bool → Bool
agree true b = b
agree false b = not b

agreed : (a b : Bool) → agree a b ≡ true → a ≡ b
agreed true b h = sym h
agreed false true h = h
agreed false false h = refl

abbrev is_right : ℕ → ℕ → ℕ → Bool
is_right low high i = agree (bit_at (lines_of (line_of low high)) i == 1) (nat_le low (i % 4) && nat_lt (i % 4) high)

table : all_below (λ low. all_below (λ high. all_below (λ i. is_right low high i) 64) 5) 4 ≡ true
table = refl

line_bits : (low high i : ℕ) → low < 4 → high < 5 → i < 64 → (bit_at (lines_of (line_of low high)) i == 1) ≡ (nat_le low (i % 4) && nat_lt (i % 4) high)
line_bits low high i l h u = agreed (bit_at (lines_of (line_of low high)) i == 1) (nat_le low (i % 4) && nat_lt (i % 4) high) (one_of (λ k. is_right low high k) 64 i (one_of (λ k. all_below (λ j. is_right low k j) 64) 5 high (one_of (λ k. all_below (λ j. all_below (λ m. is_right k j m) 64) 5) 4 low table l) h) u)

abbrev is_from : ℕ → ℕ → Bool
is_from top i = agree (bit_at (lines_from top) i == 1) (nat_le top (i / 4))

from_table : all_below (λ top. all_below (λ i. is_from top i) 64) 16 ≡ true
from_table = refl

abbrev is_to : ℕ → ℕ → Bool
is_to bottom i = agree (bit_at (lines_to bottom) i == 1) (nat_le (i / 4) bottom)

to_table : all_below (λ bottom. all_below (λ i. is_to bottom i) 64) 16 ≡ true
to_table = refl

from_bits : (top i : ℕ) → top < 16 → i < 64 → (bit_at (lines_from top) i == 1) ≡ nat_le top (i / 4)
from_bits top i l u = agreed (bit_at (lines_from top) i == 1) (nat_le top (i / 4)) (one_of (λ k. is_from top k) 64 i (one_of (λ k. all_below (λ j. is_from k j) 64) 16 top from_table l) u)

to_bits : (bottom i : ℕ) → bottom < 16 → i < 64 → (bit_at (lines_to bottom) i == 1) ≡ nat_le (i / 4) bottom
to_bits bottom i l u = agreed (bit_at (lines_to bottom) i == 1) (nat_le (i / 4) bottom) (one_of (λ k. is_to bottom k) 64 i (one_of (λ k. all_below (λ j. is_to k j) 64) 16 bottom to_table l) u)

-- a bit of both
pub both_parts : (n m i : ℕ) → bit_at (bit_and n m) i ≡ 1 → (bit_at n i ≡ 1) × (bit_at m i ≡ 1)
both_parts n m i e = (omega (arith, sym (bit_at_and n m i) ∙ e, bit_at-lt n i, bit_at-lt m i), omega (arith, sym (bit_at_and n m i) ∙ e, bit_at-lt n i, bit_at-lt m i))

pub both_from : (n m i : ℕ) → bit_at n i ≡ 1 → bit_at m i ≡ 1 → bit_at (bit_and n m) i ≡ 1
both_from n m i e f = bit_at_and n m i ∙ omega (arith, e, f)

-- the lines from one to another
pub between_bits : (top bottom : ℕ) → top < 16 → bottom < 16 → (i : ℕ) → i < 64 → (bit_at (bit_and (lines_from top) (lines_to bottom)) i == 1) ≡ (nat_le top (i / 4) && nat_le (i / 4) bottom)
between_bits top bottom l h i u = same_test (nat_le top (i / 4) && nat_le (i / 4) bottom) (bit_at (bit_and (lines_from top) (lines_to bottom)) i == 1)
    (λ q.
    let p = and_parts (nat_le top (i / 4)) (nat_le (i / 4) bottom) q in
    eq-eqb _ _ (both_from (lines_from top) (lines_to bottom) i (eqb-true _ _ (from_bits top i l u ∙ p.0)) (eqb-true _ _ (to_bits bottom i h u ∙ p.1))))
    (λ q.
    let p = both_parts (lines_from top) (lines_to bottom) i (eqb-true _ _ q) in
    and_from (nat_le top (i / 4)) (nat_le (i / 4) bottom) (sym (from_bits top i l u) ∙ eq-eqb _ _ p.0) (sym (to_bits bottom i h u) ∙ eq-eqb _ _ p.1))

-- the bits of a group of columns
module _ (r : Area) (g column top bottom low high line columns lines : ℕ) (left : column / 4 ≤ g) (right : g ≤ column_of r.last / 4)
    (is : low ≡ max (g * 4) column - g * 4) (so : high ≡ min (g * 4 + 4) (column_of r.last + 1) - g * 4) (made : line ≡ line_of low high) (spread : columns ≡ lines_of line)
    (between : (i : ℕ) → i < 64 → (bit_at lines i == 1) ≡ (nat_le top (i / 4) && nat_le (i / 4) bottom)) where
  column_bits : (i : ℕ) → i < 64 → (bit_at columns i == 1) ≡ (nat_le low (i % 4) && nat_lt (i % 4) high)
  column_bits i u = ap (λ q. bit_at q i == 1) (spread ∙ ap lines_of made) ∙ line_bits low high i (omega (arith, is, left)) (omega (arith, so)) u

  pub inside_sound : (i : ℕ) → i < 64 → bit_at (bit_and columns lines) i ≡ 1 → IsInside r g column top bottom i
  inside_sound i u e =
      let p = both_parts columns lines i e in
      let c = and_parts (nat_le low (i % 4)) (nat_lt (i % 4) high) (sym (column_bits i u) ∙ eq-eqb _ _ p.0) in
      let x : low ≤ i % 4 = leb-true low (i % 4) c.0 in
      let y : i % 4 < high = ltb-true (i % 4) high c.1 in
      let l = and_parts (nat_le top (i / 4)) (nat_le (i / 4) bottom) (sym (between i u) ∙ eq-eqb _ _ p.1) in
      (leb-true top (i / 4) l.0, leb-true (i / 4) bottom l.1, omega (arith, x, is), omega (arith, y, so))

  pub inside_whole : (i : ℕ) → i < 64 → IsInside r g column top bottom i → bit_at (bit_and columns lines) i ≡ 1
  inside_whole i u inside =
      let x : column ≤ g * 4 + i % 4 = inside.2 in
      let y : g * 4 + i % 4 ≤ column_of r.last = inside.3 in
      both_from columns lines i
      (eqb-true _ _ (column_bits i u ∙ and_from (nat_le low (i % 4)) (nat_lt (i % 4) high) (le-leb low (i % 4) (omega (arith, x, is))) (lt-ltb (i % 4) high (omega (arith, y, so)))))
      (eqb-true _ _ (between i u ∙ and_from (nat_le top (i / 4)) (nat_le (i / 4) bottom) (le-leb top (i / 4) inside.0) (le-leb (i / 4) bottom inside.1)))

-- the bits from one on, and up to one
abbrev columns_from : ℕ → ℕ
columns_from low = 18446744073709551615 * 2 ^ low % 2 ^ 64

abbrev columns_to : ℕ → ℕ
columns_to high = 18446744073709551615 / 2 ^ (63 - high)

abbrev is_upward : ℕ → ℕ → Bool
is_upward low i = agree (bit_at (columns_from low) i == 1) (nat_le low i)

upward_table : all_below (λ low. all_below (λ i. is_upward low i) 64) 64 ≡ true
upward_table = refl

abbrev is_downward : ℕ → ℕ → Bool
is_downward high i = agree (bit_at (columns_to high) i == 1) (nat_le i high)

downward_table : all_below (λ high. all_below (λ i. is_downward high i) 64) 64 ≡ true
downward_table = refl

upward_bits : (low i : ℕ) → low < 64 → i < 64 → (bit_at (columns_from low) i == 1) ≡ nat_le low i
upward_bits low i l u = agreed (bit_at (columns_from low) i == 1) (nat_le low i) (one_of (λ k. is_upward low k) 64 i (one_of (λ k. all_below (λ j. is_upward k j) 64) 64 low upward_table l) u)

downward_bits : (high i : ℕ) → high < 64 → i < 64 → (bit_at (columns_to high) i == 1) ≡ nat_le i high
downward_bits high i l u = agreed (bit_at (columns_to high) i == 1) (nat_le i high) (one_of (λ k. is_downward high k) 64 i (one_of (λ k. all_below (λ j. is_downward k j) 64) 64 high downward_table l) u)

-- a bit for each column of a rectangle
pub columns_between : (r : Area) (left right : ℕ) → left ≡ column_of r.first → right ≡ column_of r.last → right / 64 ≤ left / 64 → HasEach r (bit_and (columns_from (left % 64)) (columns_to (right % 64)))
columns_between r left right is so same k l u = both_from (columns_from (left % 64)) (columns_to (right % 64)) (k % 64)
    (eqb-true _ _ (upward_bits (left % 64) (k % 64) (omega arith) (omega arith) ∙ le-leb (left % 64) (k % 64) (omega (arith, is, so, same, l, u))))
    (eqb-true _ _ (downward_bits (right % 64) (k % 64) (omega arith) (omega arith) ∙ le-leb (k % 64) (right % 64) (omega (arith, is, so, same, l, u))))

all_table : all_below (λ i. bit_at 18446744073709551615 i == 1) 64 ≡ true
all_table = refl

pub columns_all : (r : Area) → HasEach r 18446744073709551615
columns_all r k l u = eqb-true _ _ (one_of (λ i. bit_at 18446744073709551615 i == 1) 64 (k % 64) all_table (omega arith))
