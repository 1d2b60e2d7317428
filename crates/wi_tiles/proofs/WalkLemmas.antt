-- A walk through a rectangle, tile by tile.
use Rattle.wi_tiles.proofs.Words.{◌≡◌, ℕ, ◌+◌, ◌*◌, ◌/◌, ◌%◌, ◌<◌, ◌≤◌, List, [], ◌∷◌, Option, Some, None, sym, ap, arith, ◌∙◌, ⊎_elim, zero, suc, refl, cond, subst, true, false, Bool, ◌||◌, ◌==◌, nat_le, filter, IsSome, IfNone, Bor, bit_at, cases_eq, cases_lt, and_parts, and_from, leb-true, le-leb, bit_at-zero, eqb-true, eq-eqb, ◌≢◌, ◌⊎◌, Area, place, row_of, column_of, is_within, Pages, Band, at_cell, is_ahead, with_entry, entries_from, entries_of, cells, slot, in_page, band_at, in_band, IsNext, IsStart, at_part, part_from, find as find_part, bit_of, cell_in, in_band_tile, tile_at, in_tile, is_left, is_pending, IsRest, IsFirstLeft, IsTurn, false_from_ne_true, or_cases, or_left, or_right}
use Rattle.std.proofs.Common.{inl, inr}
use Rattle.wi_tiles.proofs.MapLemmas.{below, above}
use Rattle.wi_tiles.proofs.NextLemmas.{row_cell, is_inside}
use Rattle.wi_tiles.proofs.Outcomes.{some_none}

-- the entries of cells that pass
abbrev pub passing : {V : Type 0} → (ℕ → Bool) → List (ℕ × V) → List (ℕ × V)
passing t es = filter (λ e. t e.0) es

module _ {V : Type 0} (f : ℕ → Option V) (p q : ℕ → Bool) where
  -- tests that agree where there is something
  pub passing_same : (s n : ℕ) → ((b : ℕ) → s ≤ b → b < s + n → IsSome (f b) → q b ≡ p b) → passing q (entries_from f s n) ≡ passing p (entries_from f s n)
  passing_same s zero same = refl
  passing_same s (suc n) same = at (f s) refl (passing_same (suc s) n (λ b l u. same b (omega arith) (omega arith)))
    where
      at : (o : Option V) → f s ≡ o → passing q (entries_from f (suc s) n) ≡ passing p (entries_from f (suc s) n) → passing q (with_entry s o (entries_from f (suc s) n)) ≡ passing p (with_entry s o (entries_from f (suc s) n))
      at None e rest = rest
      at (Some v) e rest =
          ap (λ t. cond t ((s, v) ∷ passing q (entries_from f (suc s) n)) (passing q (entries_from f (suc s) n))) (same s (omega arith) (omega arith) (subst (λ o. IsSome o) (sym e) refl))
          ∙ ap (λ es. cond (p s) ((s, v) ∷ es) es) rest

  -- a test that nothing there passes
  not_so : (t : ℕ → Bool) (k : ℕ) (v : V) (b : Bool) → t k ≡ b → f k ≡ Some v → (t k ≡ true → f k ≡ None) → b ≡ false
  not_so t k v false z e none = refl
  not_so t k v true z e none = absurd (some_none v (sym e ∙ none z))

  pub passing_none : (s n : ℕ) → ((b : ℕ) → s ≤ b → b < s + n → p b ≡ true → f b ≡ None) → passing p (entries_from f s n) ≡ []
  passing_none s zero none = refl
  passing_none s (suc n) none = at (f s) refl (passing_none (suc s) n (λ b l u. none b (omega arith) (omega arith)))
    where
      at : (o : Option V) → f s ≡ o → passing p (entries_from f (suc s) n) ≡ [] → passing p (with_entry s o (entries_from f (suc s) n)) ≡ []
      at None e rest = rest
      at (Some v) e rest = ap (λ t. cond t ((s, v) ∷ passing p (entries_from f (suc s) n)) (passing p (entries_from f (suc s) n))) (not_so p s v (p s) refl e (none s (omega arith) (omega arith))) ∙ rest

  -- a test that each passes
  pub passing_all : (s n : ℕ) → ((b : ℕ) → s ≤ b → b < s + n → p b ≡ true) → passing p (entries_from f s n) ≡ entries_from f s n
  passing_all s zero all = refl
  passing_all s (suc n) all = at (f s) (passing_all (suc s) n (λ b l u. all b (omega arith) (omega arith)))
    where
      at : (o : Option V) → passing p (entries_from f (suc s) n) ≡ entries_from f (suc s) n → passing p (with_entry s o (entries_from f (suc s) n)) ≡ with_entry s o (entries_from f (suc s) n)
      at None rest = rest
      at (Some v) rest = ap (λ t. cond t ((s, v) ∷ passing p (entries_from f (suc s) n)) (passing p (entries_from f (suc s) n))) (all s (omega arith) (omega arith)) ∙ ap (λ es. (s, v) ∷ es) rest

  -- the first that passes, and those after it
  pub passing_first : (s n a : ℕ) (v : V) → s ≤ a → a < s + n → f a ≡ Some v → p a ≡ true → q a ≡ false → ((b : ℕ) → b < a → p b ≡ true → f b ≡ None) → ((b : ℕ) → b < a → q b ≡ true → f b ≡ None) → ((b : ℕ) → a < b → b < s + n → IsSome (f b) → q b ≡ p b) → passing p (entries_from f s n) ≡ (a, v) ∷ passing q (entries_from f s n)
  passing_first s zero a v l u there pa qa none nor same = absurd (omega arith)
  passing_first s (suc n) a v l u there pa qa none nor same = ⊎_elim here (λ ne. later ne (f s) refl (passing_first (suc s) n a v (omega (arith, ne)) (omega arith) there pa qa none nor (λ b m w. same b m (omega arith)))) (cases_eq a s)
    where
      here : a ≡ s → passing p (entries_from f s (suc n)) ≡ (a, v) ∷ passing q (entries_from f s (suc n))
      here e =
          let is : f s ≡ Some v = ap f (sym e) ∙ there in
          ap (λ o. passing p (with_entry s o (entries_from f (suc s) n))) is
          ∙ ap (λ t. cond t ((s, v) ∷ passing p (entries_from f (suc s) n)) (passing p (entries_from f (suc s) n))) (ap p (sym e) ∙ pa)
          ∙ ap (λ es. (s, v) ∷ es) (sym (passing_same (suc s) n (λ b m w. same b (omega (arith, e, m)) (omega arith))))
          ∙ ap (λ c. (c, v) ∷ passing q (entries_from f (suc s) n)) (sym e)
          ∙ ap (λ es. (a, v) ∷ es) (sym (ap (λ o. passing q (with_entry s o (entries_from f (suc s) n))) is ∙ ap (λ t. cond t ((s, v) ∷ passing q (entries_from f (suc s) n)) (passing q (entries_from f (suc s) n))) (ap q (sym e) ∙ qa)))

      later : a ≢ s → (o : Option V) → f s ≡ o → passing p (entries_from f (suc s) n) ≡ (a, v) ∷ passing q (entries_from f (suc s) n) → passing p (with_entry s o (entries_from f (suc s) n)) ≡ (a, v) ∷ passing q (with_entry s o (entries_from f (suc s) n))
      later ne None e rest = rest
      later ne (Some w) e rest =
          ap (λ t. cond t ((s, w) ∷ passing p (entries_from f (suc s) n)) (passing p (entries_from f (suc s) n))) (not_so p s w (p s) refl e (none s (omega (arith, ne))))
          ∙ rest
          ∙ ap (λ es. (a, v) ∷ es) (sym (ap (λ t. cond t ((s, w) ∷ passing q (entries_from f (suc s) n)) (passing q (entries_from f (suc s) n))) (not_so q s w (q s) refl e (nor s (omega (arith, ne))))))

-- tests by what they say
pub same_test : (a b : Bool) → (a ≡ true → b ≡ true) → (b ≡ true → a ≡ true) → b ≡ a
same_test true true f g = refl
same_test true false f g = f refl
same_test false true f g = sym (g refl)
same_test false false f g = refl

pub none_then : {X : Type 0} {P Q : Type 0} (o : Option X) → IfNone o P → (P → Q) → IfNone o Q
none_then None p f = f p
none_then (Some x) p f = tt

-- what isn't something is nothing
pub nothing_but : {V : Type 0} (o : Option V) → (IsSome o → ⊥) → o ≡ None
nothing_but None h = refl
nothing_but (Some v) h = absurd (h refl)

left_parts : (corner left c : ℕ) → is_left corner left c ≡ true → (row_of c / 16 ≡ row_of corner / 16) × (column_of c / 4 ≡ column_of corner / 4) × (bit_at left (bit_of c) ≡ 1)
left_parts corner left c h =
    let p = and_parts (in_tile corner c) (bit_at left (bit_of c) == 1) h in
    let t = and_parts (row_of c / 16 == row_of corner / 16) (column_of c / 4 == column_of corner / 4) p.0 in
    (eqb-true _ _ t.0, eqb-true _ _ t.1, eqb-true _ _ p.1)

pub left_from : (corner left c : ℕ) → row_of c / 16 ≡ row_of corner / 16 → column_of c / 4 ≡ column_of corner / 4 → bit_at left (bit_of c) ≡ 1 → is_left corner left c ≡ true
left_from corner left c i j k = and_from (in_tile corner c) (bit_at left (bit_of c) == 1) (and_from (row_of c / 16 == row_of corner / 16) (column_of c / 4 == column_of corner / 4) (eq-eqb _ _ i) (eq-eqb _ _ j)) (eq-eqb _ _ k)

pending_parts : (r : Area) (ahead corner left c : ℕ) → is_pending r ahead corner left c ≡ true → ((is_left corner left c ≡ true) ⊎ (ahead ≤ c)) × (is_within r c ≡ true)
pending_parts r ahead corner left c h =
    let p = and_parts (is_left corner left c || nat_le ahead c) (is_within r c) h in
    (⊎_elim (λ l. inl l) (λ f. inr (leb-true ahead c f)) (or_cases (is_left corner left c) (nat_le ahead c) p.0), p.1)

pending_from : (r : Area) (ahead corner left c : ℕ) → (is_left corner left c ≡ true) ⊎ (ahead ≤ c) → is_within r c ≡ true → is_pending r ahead corner left c ≡ true
pending_from r ahead corner left c either w = and_from (is_left corner left c || nat_le ahead c) (is_within r c) (⊎_elim (λ l. or_left (is_left corner left c) (nat_le ahead c) l) (λ f. or_right (is_left corner left c) (nat_le ahead c) (le-leb ahead c f)) either) w

ahead_parts : (r : Area) (from c : ℕ) → is_ahead r from c ≡ true → (from ≤ c) × (is_within r c ≡ true)
ahead_parts r from c h = let p = and_parts (nat_le from c) (is_within r c) h in (leb-true from c p.0, p.1)

pub ahead_from : (r : Area) (from c : ℕ) → from ≤ c → is_within r c ≡ true → is_ahead r from c ≡ true
ahead_from r from c l w = and_from (nat_le from c) (is_within r c) (le-leb from c l) w

-- cells of one tile come in the order of their bits
pub bits_rise : (a c : ℕ) → row_of c / 16 ≡ row_of a / 16 → column_of c / 4 ≡ column_of a / 4 → c < a → bit_of c < bit_of a
bits_rise a c i j l = omega (arith, i, j, l)

pub cell_again : (corner c : ℕ) → row_of c / 16 ≡ row_of corner / 16 → column_of c / 4 ≡ column_of corner / 4 → cell_in corner (bit_of c) ≡ c
cell_again corner c i j = omega (arith, i, j)

pub of_bit : (corner b : ℕ) → b < 64 → (row_of (cell_in corner b) / 16 ≡ row_of corner / 16) × (column_of (cell_in corner b) / 4 ≡ column_of corner / 4) × (bit_of (cell_in corner b) ≡ b)
of_bit corner b h =
    let k : column_of corner / 4 * 4 + b % 4 < 16384 = omega arith in
    let row : row_of (cell_in corner b) ≡ row_of corner / 16 * 16 + b / 4 = omega (arith, k) in
    let column : column_of (cell_in corner b) ≡ column_of corner / 4 * 4 + b % 4 = omega (arith, k) in
    (omega (arith, row, h), omega (arith, column), omega (arith, row, column, h))

pub row_in : (corner b : ℕ) → b < 64 → row_of (cell_in corner b) ≡ row_of corner / 16 * 16 + b / 4
row_in corner b h =
    let k : column_of corner / 4 * 4 + b % 4 < 16384 = omega arith in
    omega (arith, k)

pub column_in : (corner b : ℕ) → column_of (cell_in corner b) ≡ column_of corner / 4 * 4 + b % 4
column_in corner b =
    let k : column_of corner / 4 * 4 + b % 4 < 16384 = omega arith in
    omega (arith, k)

pub same_band : {V : Type 0} (w : Pages V) (row other : ℕ) → row / 16 ≡ other / 16 → band_at w row ≡ band_at w other
same_band w row other i = ap (λ p. in_page (part_from w p) (row / 16 % 256)) pages ∙ ap (λ b. in_page (part_from w (other / 4096)) b) (ap (λ q. q % 256) i)
  where
    pages : row / 4096 ≡ other / 4096
    pages = omega (arith, i)

-- what a cell has is what its tile has at its bit
pub tile_cell : {V : Type 0} (w : Pages V) (corner c : ℕ) (t : List (Option V)) → c < 17179869184 → tile_at w corner ≡ Some t → row_of c / 16 ≡ row_of corner / 16 → column_of c / 4 ≡ column_of corner / 4 → at_cell w c ≡ slot t (bit_of c)
tile_cell {V} w corner c t h is i j = row_cell w c h ∙ band (band_at w (row_of c)) (ap (λ o. in_band_tile o (column_of corner / 4)) same ∙ is)
  where
    same : band_at w (row_of c) ≡ band_at w (row_of corner)
    same = same_band w (row_of c) (row_of corner) i

    band : (o : Option (Band V)) → in_band_tile o (column_of corner / 4) ≡ Some t → in_band o (row_of c % 16) (column_of c) ≡ slot t (bit_of c)
    band None e = absurd (some_none t (sym e))
    band (Some ts) e = ap (λ g. at_part slot (find_part g ts) (4 * (row_of c % 16) + column_of c % 4)) j ∙ ap (λ o. at_part slot o (4 * (row_of c % 16) + column_of c % 4)) e ∙ ap (λ b. slot t b) (let z : 4 * (row_of c % 16) + column_of c % 4 ≡ bit_of c = omega arith in z)

-- the cells of a tile are cells of the sheet
pub in_sheet : (corner b : ℕ) → corner < 17179869184 → b < 64 → cell_in corner b < 17179869184
in_sheet corner b h l = omega (arith, h, l)

pub ahead_within : (r : Area) (from a : ℕ) → is_ahead r from a ≡ true → is_within r a ≡ true
ahead_within r from a h = (and_parts (nat_le from a) (is_within r a) h).1

pub bit_small : (c : ℕ) → bit_of c < 64
bit_small c = omega arith

-- the first of the bits that are left goes
module _ {V : Type 0} (w : Pages V) (r : Area) (ahead corner left after b place : ℕ) (t : List (Option V)) (v : V) (rest : IsRest w r ahead t corner left) (found : IsFirstLeft t left b place v)
    (cleared : bit_at after b ≡ 0) (others : (i : ℕ) → i < 64 → i ≢ b → bit_at after i ≡ bit_at left i) where
  abbrev a : ℕ
  a = cell_in corner b

  stands : (row_of a / 16 ≡ row_of corner / 16) × (column_of a / 4 ≡ column_of corner / 4) × (bit_of a ≡ b)
  stands = of_bit corner b found.within

  sheet : a < 17179869184
  sheet = in_sheet corner b rest.sheet found.within

  a_left : is_left corner left a ≡ true
  a_left = left_from corner left a stands.0 stands.1 (ap (λ i. bit_at left i) stands.2 ∙ found.set)

  within : is_within r a ≡ true
  within = rest.inside b found.within found.set

  before : (c : ℕ) → c ≤ a → ahead ≤ c → is_within r c ≡ true → ⊥
  before c l f m = omega (arith, rest.order b c found.within found.set f m, l)

  -- what stays is what was left, but for this one
  stays : (i : ℕ) → i < 64 → bit_at after i ≡ 1 → (i ≢ b) × (bit_at left i ≡ 1)
  stays i u e = let ne : i ≢ b = λ z. omega (arith, sym (ap (λ k. bit_at after k) z) ∙ e, cleared) in (ne, sym (others i u ne) ∙ e)

  pub takes_left : passing (is_pending r ahead corner left) (entries_of w) ≡ (a, v) ∷ passing (is_pending r ahead corner after) (entries_of w)
  takes_left = passing_first (λ c. at_cell w c) (is_pending r ahead corner left) (is_pending r ahead corner after) 0 cells a v (omega arith) (omega (arith, below a sheet))
      (tile_cell w corner a t sheet rest.stands stands.0 stands.1 ∙ ap (λ i. slot t i) stands.2 ∙ found.value)
      (pending_from r ahead corner left a (inl a_left) within)
      (false_from_ne_true (is_pending r ahead corner after a) (λ q. let p = pending_parts r ahead corner after a q in ⊎_elim
      (λ l. let s = left_parts corner after a l in (stays (bit_of a) (bit_small a) s.2).0 stands.2)
      (λ f. before a (omega arith) f p.1)
      p.0))
      (λ c l q. let p = pending_parts r ahead corner left c q in ⊎_elim
      (λ m. let s = left_parts corner left c m in absurd (omega (arith, found.first (bit_of c) (omega (arith, stands.2, bits_rise a c (s.0 ∙ sym stands.0) (s.1 ∙ sym stands.1) l)), s.2)))
      (λ f. absurd (before c (omega (arith, l)) f p.1))
      p.0)
      (λ c l q. let p = pending_parts r ahead corner after c q in ⊎_elim
      (λ m. let s = left_parts corner after c m in absurd (omega (arith, found.first (bit_of c) (omega (arith, stands.2, bits_rise a c (s.0 ∙ sym stands.0) (s.1 ∙ sym stands.1) l)), (stays (bit_of c) (bit_small c) s.2).1)))
      (λ f. absurd (before c (omega (arith, l)) f p.1))
      p.0)
      (λ c l u some. same_test (is_pending r ahead corner left c) (is_pending r ahead corner after c)
      (λ q. let p = pending_parts r ahead corner left c q in pending_from r ahead corner after c (⊎_elim
      (λ m. let s = left_parts corner left c m in inl (left_from corner after c s.0 s.1 (others (bit_of c) (bit_small c) (λ z. omega (arith, z, stands.2, bits_rise c a (stands.0 ∙ sym s.0) (stands.1 ∙ sym s.1) l)) ∙ s.2)))
      (λ f. inr f)
      p.0) p.1)
      (λ q. let p = pending_parts r ahead corner after c q in pending_from r ahead corner left c (⊎_elim
      (λ m. let s = left_parts corner after c m in inl (left_from corner left c s.0 s.1 (stays (bit_of c) (bit_small c) s.2).1))
      (λ f. inr f)
      p.0) p.1))

  pub rest_left : IsRest w r ahead t corner after
  rest_left = record {
    stands = rest.stands;
    sheet = rest.sheet;
    there = λ i u e. rest.there i u (stays i u e).1;
    inside = λ i u e. rest.inside i u (stays i u e).1;
    order = λ i c u e f m. rest.order i c u (stays i u e).1 f m;
  }

-- nothing is left of a tile
none_left : (corner left c : ℕ) → left ≡ 0 → is_left corner left c ≡ true → ⊥
none_left corner left c e m = omega (arith, (left_parts corner left c m).2, ap (λ n. bit_at n (bit_of c)) e ∙ bit_at-zero (bit_of c))

pub all_behind : {V : Type 0} (w : Pages V) (r : Area) (ahead corner left : ℕ) → left ≡ 0 → passing (is_pending r ahead corner left) (entries_of w) ≡ passing (is_ahead r ahead) (entries_of w)
all_behind w r ahead corner left e = passing_same (λ c. at_cell w c) (is_ahead r ahead) (is_pending r ahead corner left) 0 cells (λ c l u some. same_test (is_ahead r ahead c) (is_pending r ahead corner left c)
    (λ q. let p = ahead_parts r ahead c q in pending_from r ahead corner left c (inr p.0) p.1)
    (λ q. let p = pending_parts r ahead corner left c q in ⊎_elim (λ m. absurd (none_left corner left c e m)) (λ f. ahead_from r ahead c f p.1) p.0))

-- the walk turns to the next tile
pub turned : {V : Type 0} (w : Pages V) (r : Area) (from : ℕ) (t : List (Option V)) (corner left before : ℕ) (whole : Bool) (row column : ℕ) (tiles : Option (Bor (Band V))) (n : ℕ) → IsTurn w r from t corner left before whole row column tiles n
    → passing (is_ahead r from) (entries_of w) ≡ passing (is_pending r (place row column) corner left) (entries_of w)
turned w r from t corner left before whole row column tiles n turn = sym (passing_same (λ c. at_cell w c) (is_ahead r from) (is_pending r (place row column) corner left) 0 cells (λ c l u some. same_test (is_ahead r from c) (is_pending r (place row column) corner left c)
    (λ q. let p = ahead_parts r from c q in pending_from r (place row column) corner left c (⊎_elim (λ m. inl (turn.all c (above c (omega (arith, u))) q m some)) (λ m. inr m) (cases_lt c (place row column))) p.1)
    (λ q. let p = pending_parts r (place row column) corner left c q in ahead_from r from c (⊎_elim
    (λ m. let s = left_parts corner left c m in omega (arith, turn.after (bit_of c) (bit_small c) s.2, cell_again corner c s.0 s.1))
    (λ f. omega (arith, f, turn.later))
    p.0) p.1)))

-- the cell of the first of its bits is the next one of the rectangle
pub turn_first : {V : Type 0} (w : Pages V) (r : Area) (from : ℕ) (t : List (Option V)) (corner left before : ℕ) (whole : Bool) (row column : ℕ) (tiles : Option (Bor (Band V))) (n b : ℕ) (v : V) → IsTurn w r from t corner left before whole row column tiles n → IsFirstLeft t left b before v
    → IsNext w r from (cell_in corner b) × (at_cell w (cell_in corner b) ≡ Some v) × (cell_in corner b < 17179869184)
turn_first w r from t corner left before whole row column tiles n b v turn found =
    let stands = of_bit corner b found.within in
    let sheet : cell_in corner b < 17179869184 = in_sheet corner b turn.rest.sheet found.within in
    let is : at_cell w (cell_in corner b) ≡ Some v = tile_cell w corner (cell_in corner b) t sheet turn.rest.stands stands.0 stands.1 ∙ ap (λ i. slot t i) stands.2 ∙ found.value in
    let within = turn.rest.inside b found.within found.set in (
      record {
        there = subst (λ o. IsSome o) (sym is) refl;
        ahead = ahead_from r from (cell_in corner b) (turn.after b found.within found.set) within;
        first = λ c h l. nothing_but (at_cell w c) (λ some.
            let p = ahead_parts r from c h in
            let s = left_parts corner left c (turn.all c (omega (arith, l, sheet)) h (⊎_elim (λ m. m) (λ f. absurd (omega (arith, turn.rest.order b c found.within found.set f p.1, l))) (cases_lt c (place row column))) some) in
            omega (arith, found.first (bit_of c) (omega (arith, stands.2, bits_rise (cell_in corner b) c (s.0 ∙ sym stands.0) (s.1 ∙ sym stands.1) l)), s.2));
      },
      is,
      sheet,
    )

-- and where there is none
pub ends : {V : Type 0} (w : Pages V) (r : Area) (from : ℕ) → ((c : ℕ) → is_ahead r from c ≡ true → at_cell w c ≡ None) → passing (is_ahead r from) (entries_of w) ≡ []
ends w r from none = passing_none (λ c. at_cell w c) (is_ahead r from) (is_ahead r from) 0 cells (λ c l u q. none c q)

-- how a walk begins
pub begins : {V : Type 0} (w : Pages V) (r : Area) (from row column corner : ℕ) → IsStart r from row column → passing (is_pending r (place row column) corner 0) (entries_of w) ≡ passing (is_ahead r from) (entries_of w)
begins w r from row column corner start = all_behind w r (place row column) corner 0 refl ∙ passing_same (λ c. at_cell w c) (is_ahead r from) (is_ahead r (place row column)) 0 cells (λ c l u some. same_test (is_ahead r from c) (is_ahead r (place row column) c)
    (λ q. ahead_from r (place row column) c (start.all c q) (ahead_parts r from c q).1)
    (λ q. let p = ahead_parts r (place row column) c q in ahead_from r from c (omega (arith, p.0, start.after)) p.1))

pub next_started : {V : Type 0} (w : Pages V) (r : Area) (from row column a : ℕ) → IsStart r from row column → IsNext w r (place row column) a → IsNext w r from a
next_started w r from row column a start next =
    let p = ahead_parts r (place row column) a next.ahead in
    record {
      there = next.there;
      ahead = ahead_from r from a (omega (arith, p.0, start.after)) p.1;
      first = λ b h l. next.first b (ahead_from r (place row column) b (start.all b h) (ahead_parts r from b h).1) l;
    }

pub none_started : {V : Type 0} (w : Pages V) (r : Area) (from row column : ℕ) → IsStart r from row column → ((c : ℕ) → is_ahead r (place row column) c ≡ true → at_cell w c ≡ None) → (c : ℕ) → is_ahead r from c ≡ true → at_cell w c ≡ None
none_started w r from row column start none c h = none c (ahead_from r (place row column) c (start.all c h) (ahead_parts r from c h).1)

-- through all cells
pub all_pass : {V : Type 0} (w : Pages V) (r : Area) (from : ℕ) → from ≡ 0 → r.first ≡ 0 → r.last ≡ 17179869183 → passing (λ c. is_ahead r from c) (entries_of w) ≡ entries_of w
all_pass w r from e f l = passing_all (λ c. at_cell w c) (λ c. is_ahead r from c) (λ c. is_ahead r from c) 0 cells (λ c low u.
    let h : c < 17179869184 = above c (omega (arith, u)) in
    is_inside r from c (omega (arith, e)) (omega (arith, f)) (omega (arith, l, h)) (omega (arith, f)) (omega (arith, l, h)))
