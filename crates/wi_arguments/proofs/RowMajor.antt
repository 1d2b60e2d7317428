-- The cells of a rectangle stand in order, and each is inside.
use Rattle.std.proofs.Common.{◌≡◌, ℕ, zero, suc, ◌<◌, ◌≤◌, ◌-◌, ◌+◌, ◌*◌, Bool, true, false, cond, List, [], ◌∷◌, ◌++◌, map, filter, refl, sym, ap, ◌∙◌, subst, arith}
use Rattle.std.specs.Prelude.{nat_le, nat_lt}
use Rattle.std.specs.List.{AllByRecursion, range_with_len, flat_map}
use Rattle.std.proofs.lemmas.Bool.{and_from, le-leb, le-ltb, lt-leb, lt-ltb, ltb-false, ltb-true}
use Rattle.std.proofs.lemmas.List.Elements.{filter-append}
use Rattle.std.proofs.Math.Nat.{mod-lt, div-add-mod'}
use Rattle.wi_values.specs.declared.value.Value.{Value}
use Rattle.wi_standard_functions.specs.Arguments.{region_of}
use Rattle.wi_values.specs.Address.{Area, is_within, cells_of, place, row_of, column_of}
use Rattle.wi_values.proofs.Within.{within_parts}

all_append : (P : ℕ → Type 0) (xs ys : List ℕ) → AllByRecursion P xs → AllByRecursion P ys → AllByRecursion P (xs ++ ys)
all_append P [] ys h k = k
all_append P (x ∷ xs) ys h k = (h.0, all_append P xs ys h.1 k)

-- ---- the cells from one on are it and those after it

abbrev pub from_on : ℕ → List ℕ → List ℕ
from_on c xs = filter (λ a. nat_le c a) xs

abbrev pub past : ℕ → List ℕ → List ℕ
past c xs = filter (λ a. nat_lt c a) xs

abbrev pub Splits : ℕ → List ℕ → Type 0
Splits c xs = from_on c xs ≡ c ∷ past c xs

below_then : (c : ℕ) (zs xs : List ℕ) → AllByRecursion (λ z. z < c) zs → Splits c xs → Splits c (zs ++ xs)
below_then c [] xs h k = k
below_then c (z ∷ zs) xs h k =
    ap (λ (b : Bool). cond b (z ∷ from_on c (zs ++ xs)) (from_on c (zs ++ xs))) (lt-leb c z h.0)
    ∙ below_then c zs xs h.1 k
    ∙ ap (λ (b : Bool). c ∷ cond b (z ∷ past c (zs ++ xs)) (past c (zs ++ xs))) (sym (le-ltb c z (omega (arith, h.0))))

above_same : (c : ℕ) (zs : List ℕ) → AllByRecursion (λ z. c < z) zs → from_on c zs ≡ past c zs
above_same c [] h = refl
above_same c (z ∷ zs) h =
    ap (λ (b : Bool). cond b (z ∷ from_on c zs) (from_on c zs)) (le-leb c z (omega (arith, h.0)))
    ∙ ap (λ (ys : List ℕ). z ∷ ys) (above_same c zs h.1)
    ∙ ap (λ (b : Bool). cond b (z ∷ past c zs) (past c zs)) (sym (lt-ltb c z h.0))

then_above : (c : ℕ) (xs zs : List ℕ) → Splits c xs → AllByRecursion (λ z. c < z) zs → Splits c (xs ++ zs)
then_above c xs zs k h =
    filter-append (λ a. nat_le c a) xs zs
    ∙ ap (λ (ys : List ℕ). ys ++ from_on c zs) k
    ∙ ap (λ (ys : List ℕ). c ∷ (past c xs ++ ys)) (above_same c zs h)
    ∙ ap (λ (ys : List ℕ). c ∷ ys) (sym (filter-append (λ a. nat_lt c a) xs zs))

itself : (c : ℕ) → Splits c (c ∷ [])
itself c = ap (λ (b : Bool). cond b (c ∷ []) []) (le-leb c c (omega arith)) ∙ ap (λ (b : Bool). c ∷ cond b (c ∷ []) []) (sym (le-ltb c c (omega arith)))

-- ---- one row

abbrev pub run : ℕ → ℕ → ℕ → List ℕ
run row a n = map (place row) (range_with_len a n)

run_below : (c row a n : ℕ) → place row (a + n) ≤ c → AllByRecursion (λ z. z < c) (run row a n)
run_below c row a zero h = tt
run_below c row a (suc n) h = (omega (arith, h), run_below c row (a + 1) n (omega (arith, h)))

run_above : (c row a n : ℕ) → c < place row a → AllByRecursion (λ z. c < z) (run row a n)
run_above c row a zero h = tt
run_above c row a (suc n) h = (h, run_above c row (a + 1) n (omega (arith, h)))

run_splits : (c row a n : ℕ) → place row a ≤ c → c < place row (a + n) → Splits c (run row a n)
run_splits c row a zero h k = absurd (omega (arith, h, k))
run_splits c row a (suc n) h k = at (nat_lt (place row a) c) refl (λ l. run_splits c row (a + 1) n (omega (arith, l)) (omega (arith, k)))
  where
    at : (b : Bool) → nat_lt (place row a) c ≡ b → (place row a < c → Splits c (run row (a + 1) n)) → Splits c (place row a ∷ run row (a + 1) n)
    at true e ih = below_then c (place row a ∷ []) (run row (a + 1) n) (ltb-true (place row a) c e, tt) (ih (ltb-true (place row a) c e))
    at false e ih =
        let same : c ≡ place row a = omega (arith, h, ltb-false (place row a) c e) in
        subst (λ (z : ℕ). Splits c (z ∷ run row (a + 1) n)) same (then_above c (c ∷ []) (run row (a + 1) n) (itself c) (run_above c row (a + 1) n (omega (arith, same))))

-- ---- rows

abbrev pub block : ℕ → ℕ → ℕ → ℕ → List ℕ
block row h a n = flat_map (λ i. run i a n) (range_with_len row h)

block_above : (c row h a n : ℕ) → c < place row a → AllByRecursion (λ z. c < z) (block row h a n)
block_above c row zero a n l = tt
block_above c row (suc h) a n l = all_append (λ z. c < z) (run row a n) (block (row + 1) h a n) (run_above c row a n l) (block_above c (row + 1) h a n (omega (arith, l)))

block_splits : (c at_row row h a n : ℕ) → row ≤ at_row → at_row < row + h → a + n ≤ 16384 → place at_row a ≤ c → c < place at_row (a + n) → Splits c (block row h a n)
block_splits c at_row row zero a n l m w p q = absurd (omega (arith, l, m))
block_splits c at_row row (suc h) a n l m w p q = at (nat_lt row at_row) refl (λ k. block_splits c at_row (row + 1) h a n (omega (arith, k)) (omega (arith, m)) w p q)
  where
    at : (b : Bool) → nat_lt row at_row ≡ b → (row < at_row → Splits c (block (row + 1) h a n)) → Splits c (run row a n ++ block (row + 1) h a n)
    at true e ih = let k : row < at_row = ltb-true row at_row e in below_then c (run row a n) (block (row + 1) h a n) (run_below c row a n (omega (arith, k, w, p))) (ih k)
    at false e ih =
        let same : at_row ≡ row = omega (arith, l, ltb-false row at_row e) in
        then_above c (run row a n) (block (row + 1) h a n) (run_splits c row a n (subst (λ (i : ℕ). place i a ≤ c) same p) (subst (λ (i : ℕ). c < place i (a + n)) same q)) (block_above c (row + 1) h a n (omega (arith, same, q, w)))

-- ---- a rectangle

pub from_cell_on : (r : Area) (c : ℕ) → is_within r c ≡ true → Splits c (cells_of r)
from_cell_on r c h =
    let w = within_parts r c h in
    let whole : row_of c * 16384 + column_of c ≡ c = div-add-mod' c 16384 in
    let narrow : column_of r.last < 16384 = mod-lt r.last (omega arith) in
    block_splits c (row_of c) (row_of r.first) ((row_of r.last + 1) - row_of r.first) (column_of r.first) ((column_of r.last + 1) - column_of r.first)
    w.0 (omega (arith, w.0, w.1)) (omega (arith, narrow, w.2, w.3)) (omega (arith, whole, w.2)) (omega (arith, whole, w.2, w.3))

inside_place : (r : Area) (row a : ℕ) → row_of r.first ≤ row → row ≤ row_of r.last → column_of r.first ≤ a → a ≤ column_of r.last → is_within r (place row a) ≡ true
inside_place r row a h k l m =
    let narrow : column_of r.last < 16384 = mod-lt r.last (omega arith) in
    let row_is : row_of (place row a) ≡ row = omega (arith, narrow, m) in
    let column_is : column_of (place row a) ≡ a = omega (arith, narrow, m) in
    rw (row_is, column_is) (and_from _ _ (and_from _ _ (le-leb _ _ h) (le-leb _ _ k)) (and_from _ _ (le-leb _ _ l) (le-leb _ _ m)))

abbrev AllInside : Area → List ℕ → Type 0
AllInside r xs = AllByRecursion (λ a. is_within r a ≡ true) xs

run_inside : (r : Area) (row a n : ℕ) → row_of r.first ≤ row → row ≤ row_of r.last → column_of r.first ≤ a → n ≡ (column_of r.last + 1) - a → AllInside r (run row a n)
run_inside r row a zero h k l m = tt
run_inside r row a (suc n) h k l m = (inside_place r row a h k l (omega (arith, m)), run_inside r row (a + 1) n h k (omega (arith, l)) (omega (arith, m)))

block_inside : (r : Area) (row h a n : ℕ) → row_of r.first ≤ row → h ≡ (row_of r.last + 1) - row → column_of r.first ≤ a → n ≡ (column_of r.last + 1) - a → AllInside r (block row h a n)
block_inside r row zero a n k m l w = tt
block_inside r row (suc h) a n k m l w = all_append (λ b. is_within r b ≡ true) (run row a n) (block (row + 1) h a n) (run_inside r row a n k (omega (arith, m)) l w) (block_inside r (row + 1) h a n (omega (arith, k)) (omega (arith, m)) l w)

-- each cell of a rectangle is inside, and one whose corners don't stand in order has none
pub cells_inside : (r : Area) → AllInside r (cells_of r)
cells_inside r = block_inside r (row_of r.first) ((row_of r.last + 1) - row_of r.first) (column_of r.first) ((column_of r.last + 1) - column_of r.first) (omega arith) refl (omega arith) refl

-- ---- locality

-- values that agree on the cells of a rectangle make one region of it
pub region_same : (g h : ℕ → Value) (r : Area) → ((a : ℕ) → is_within r a ≡ true → g a ≡ h a) → region_of g r ≡ region_of h r
region_same g h r k = ap (λ (vs : List Value). record { height = (row_of r.last + 1) - row_of r.first; width = (column_of r.last + 1) - column_of r.first; values = vs }) (same (cells_of r) (cells_inside r))
  where
    same : (xs : List ℕ) → AllInside r xs → map g xs ≡ map h xs
    same [] i = refl
    same (x ∷ xs) i = ap (λ (v : Value). v ∷ map g xs) (k x i.0) ∙ ap (λ (vs : List Value). h x ∷ vs) (same xs i.1)
