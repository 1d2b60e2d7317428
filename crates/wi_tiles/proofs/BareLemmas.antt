-- Which columns a page has bits for, and bands in which a rectangle has nothing.
use Rattle.wi_tiles.proofs.Words.{◌≡◌, ℕ, ◌+◌, ◌*◌, ◌/◌, ◌%◌, ◌^◌, ◌<◌, ◌≤◌, List, length, Option, Some, None, sym, ap, arith, ◌∙◌, ⊎_elim, refl, cond, subst, true, ◌==◌, if◌then◌else◌, IsTrue, IsSome, is_some, slice_index_or, option_map, bit_and, bit_or, bit_at, w64, cases_eq, cases_lt, bit_at-zero, bit_at_set_same, bit_at_set_other, eq-eqb, eqb-true, ne_eqb, Area, place, row_of, column_of, is_within, Pages, Page, Band, at_cell, is_ahead, column_bit, HasColumns, HasEach, IsBare, cell, slot, in_page, in_band, at_part, part_from, at_window, at_sorted, key, Rises, find as find_part, IsInside, within_parts}
use Rattle.wi_tiles.proofs.Keys.{find_at, find_beyond, above_more}
use Rattle.wi_tiles.proofs.MaskLemmas.{both_from}
use Rattle.wi_tiles.proofs.NextLemmas.{row_cell}
use Rattle.wi_tiles.proofs.Outcomes.{nothing_some}
use Rattle.wi_tiles.proofs.WalkLemmas.{nothing_but, ahead_within}

-- what a page has at a path
abbrev pub in_bands : {V : Type 0} → Page V → ℕ → Option V
in_bands w p = at_window (at_sorted slot) w p

replaced_some : {V : Type 0} (v : V) (o : Option V) → IsSome (option_map (λ _. v) o) → IsSome o
replaced_some v None some = some
replaced_some v (Some w) some = refl

-- a page's bits, after a change of one path
module _ {V : Type 0} (old new : Page V) (columns path : ℕ) (has : HasColumns old columns) where
  pub columns_changed : (o : Option V) → (IsSome o → IsSome (in_bands old path)) → ((p : ℕ) → in_bands new p ≡ (if p == path then o else in_bands old p)) → HasColumns new columns
  columns_changed o stood changed p some = has p (⊎_elim
      (λ e. ap (λ q. is_some (in_bands old q)) e ∙ stood (subst (λ x. IsSome x) (changed p ∙ ap (λ b. cond b o (in_bands old p)) (eq-eqb p path e)) some))
      (λ ne. subst (λ x. IsSome x) (changed p ∙ ap (λ b. cond b o (in_bands old p)) (ne_eqb p path ne)) some)
      (cases_eq p path))

  pub columns_more : (o : Option V) (bit : ℕ) → bit < 64 → bit ≡ column_bit path → ((p : ℕ) → in_bands new p ≡ (if p == path then o else in_bands old p)) → HasColumns new (bit_or columns (1 * 2 ^ bit % 2 ^ 64))
  columns_more o bit small is changed p some = ⊎_elim
      (λ e. ap (λ b. bit_at (bit_or columns (1 * 2 ^ bit % 2 ^ 64)) b) e ∙ bit_at_set_same w64 columns bit small)
      (λ ne. bit_at_set_other w64 columns bit small (column_bit p) ne ∙ has p (subst (λ x. IsSome x) (changed p ∙ ap (λ b. cond b o (in_bands old p)) (ne_eqb p path (λ e. ne (ap column_bit e ∙ sym is)))) some))
      (cases_eq (column_bit p) bit)

pub columns_removed : {V : Type 0} (old new : Page V) (columns path : ℕ) → HasColumns old columns → ((p : ℕ) → in_bands new p ≡ (if p == path then None else in_bands old p)) → HasColumns new columns
columns_removed {V} old new columns path has changed = columns_changed old new columns path has None (λ some. absurd (nothing_some V some)) changed

pub columns_replaced : {V : Type 0} (old new : Page V) (columns path : ℕ) (v : V) → HasColumns old columns → ((p : ℕ) → in_bands new p ≡ (if p == path then option_map (λ _. v) (in_bands old path) else in_bands old p)) → HasColumns new columns
columns_replaced old new columns path v has changed = columns_changed old new columns path has (option_map (λ _. v) (in_bands old path)) (replaced_some v (in_bands old path)) changed

pub columns_none : {V : Type 0} (w : Page V) (columns : ℕ) → ((p : ℕ) → in_bands w p ≡ None) → HasColumns w columns
columns_none {V} w columns nothing p some = absurd (nothing_some V (subst (λ o. IsSome o) (nothing p) some))

-- columns that have no bit have nothing
pub columns_lack : {V : Type 0} (w : Page V) (columns others : ℕ) → HasColumns w columns → IsTrue (bit_and columns others == 0) → (p : ℕ) → bit_at others (column_bit p) ≡ 1 → in_bands w p ≡ None
columns_lack w columns others has none p one = nothing_but (in_bands w p) (λ some. omega (
  arith,
  sym (both_from columns others (column_bit p) (has p some) one) ∙ ap (λ n. bit_at n (column_bit p)) (eqb-true (bit_and columns others) 0 none) ∙ bit_at-zero (column_bit p),
))

-- a path through a page's bands, and what stands there
abbrev path_in : ℕ → ℕ → ℕ → ℕ
path_in i line k = i + 256 * (k / 4 + 4096 * (line * 4 + k % 4))

digits_in : (i line k : ℕ) → i < 256 → k < 16384 → (path_in i line k % 256 ≡ i) × (path_in i line k / 256 % 4096 ≡ k / 4) × (path_in i line k / 256 / 4096 ≡ 4 * line + k % 4)
digits_in i line k h l =
    let bit : ℕ = line * 4 + k % 4 in
    let group : ℕ = k / 4 + 4096 * bit in
    let one : (path_in i line k % 256 ≡ i) × (path_in i line k / 256 ≡ group) = omega arith in
    let two : (group % 4096 ≡ k / 4) × (group / 4096 ≡ bit) = omega arith in
    (one.0, ap (λ q. q % 4096) one.1 ∙ two.0, ap (λ q. q / 4096) one.1 ∙ two.1 ∙ (let e : line * 4 + k % 4 ≡ 4 * line + k % 4 = omega arith in e))

bit_in : (i line k : ℕ) → i < 256 → k < 16384 → column_bit (path_in i line k) ≡ k % 64
bit_in i line k h l = let d = digits_in i line k h l in omega (arith, d)

page_cell : {V : Type 0} (w : Page V) (i line k : ℕ) → i < 256 → k < 16384 → in_bands w (path_in i line k) ≡ in_band (part_from w i) line k
page_cell {V} w i line k h l = ap (λ j. at_part (at_sorted slot) (part_from w j) (path_in i line k / 256)) d.0 ∙ band (part_from w i)
  where
    d : (path_in i line k % 256 ≡ i) × (path_in i line k / 256 % 4096 ≡ k / 4) × (path_in i line k / 256 / 4096 ≡ 4 * line + k % 4)
    d = digits_in i line k h l

    band : (o : Option (Band V)) → at_part (at_sorted slot) o (path_in i line k / 256) ≡ in_band o line k
    band None = refl
    band (Some ts) = ap (λ g. at_part slot (find_part g ts) (path_in i line k / 256 / 4096)) d.1 ∙ ap (λ b. at_part slot (find_part (k / 4) ts) b) d.2

pub bare_page : {V : Type 0} (w : Page V) (r : Area) (columns : ℕ) → HasEach r columns → ((p : ℕ) → bit_at columns (column_bit p) ≡ 1 → in_bands w p ≡ None) → (i : ℕ) → i < 256 → IsBare r (part_from w i)
bare_page w r columns each none i h line k m l u =
    let small : k < 16384 = omega (arith, u) in
    sym (page_cell w i line k h small) ∙ none (path_in i line k) (ap (λ b. bit_at columns b) (bit_in i line k h small) ∙ each k l u)

-- the tiles of a band, where those before a place are of groups left of a rectangle
module _ {V : Type 0} (ts : Band V) (r : Area) (place : ℕ) (rises : Rises ts) (bound : place ≤ length ts) (below : (i : ℕ) → i < place → key ts i < column_of r.first / 4) where
  none_of : (line k : ℕ) → find_part (k / 4) ts ≡ None → cell ts line k ≡ None
  none_of line k e = ap (λ o. at_part slot o (4 * line + k % 4)) e

  pub bare_past : length ts ≤ place → IsBare r (Some ts)
  bare_past over line k h l u = none_of line k (find_beyond ts place (k / 4) bound (λ i q. omega (arith, below i q, l)) (λ i q m. absurd (omega (arith, over, q, m))))

  module _ (x : ℕ × List (Option V)) (within : place < length ts) (read : x ≡ slice_index_or ts place x) where
    before : (g : ℕ) → column_of r.first / 4 ≤ g → g < x.0 → find_part g ts ≡ None
    before g l u = find_beyond ts place g bound (λ i q. omega (arith, below i q, l)) (λ i q m. omega (arith, u, above_more ts place x.0 x rises within read (omega arith) i q m))

    pub bare_before : column_of r.last / 4 < x.0 → IsBare r (Some ts)
    bare_before less line k h l u = none_of line k (before (k / 4) (omega (arith, l)) (omega (arith, u, less)))

    pub bare_bits : (mask left : ℕ) → x.0 ≡ column_of r.last / 4 → column_of r.first / 4 ≤ x.0 → ((i : ℕ) → i < 64 → IsInside r (column_of r.last / 4) (column_of r.first) 0 15 i → bit_at mask i ≡ 1)
        → ((i : ℕ) → i < 64 → bit_at mask i ≡ 1 → IsSome (slot x.1 i) → bit_at left i ≡ 1) → IsTrue (left == 0) → IsBare r (Some ts)
    bare_bits mask left is high inside each zero line k h l u = ⊎_elim
        (λ q. none_of line k (before (k / 4) (omega (arith, l)) (omega (arith, q, is))))
        (λ q. nothing_but (cell ts line k) (λ some.
        let group : k / 4 ≡ x.0 = omega (arith, q, u, is) in
        let found : find_part (k / 4) ts ≡ Some x.1 = ap (λ g. find_part g ts) group ∙ find_at ts place x.0 x within read refl (λ j m. omega (arith, below j m, high)) in
        let small : 4 * line + k % 4 < 64 = omega (arith, h) in
        let lies : IsInside r (column_of r.last / 4) (column_of r.first) 0 15 (4 * line + k % 4) = (omega arith, omega (arith, h), omega (arith, group, is, l), omega (arith, group, is, u)) in
        let one : bit_at left (4 * line + k % 4) ≡ 1 = each (4 * line + k % 4) small (inside (4 * line + k % 4) small lies) (subst (λ o. IsSome (at_part slot o (4 * line + k % 4))) found some) in
        omega (arith, sym one ∙ ap (λ n. bit_at n (4 * line + k % 4)) (eqb-true left 0 zero) ∙ bit_at-zero (4 * line + k % 4))))
        (cases_lt (k / 4) (column_of r.last / 4))

-- rows of a page in which a rectangle has nothing
pub bare_rows : {V : Type 0} (w : Pages V) (r : Area) (row n : ℕ) (p : Page V) → part_from w (row / 4096) ≡ Some p → n ≤ 256 → row < 1048576 → ((i : ℕ) → row / 16 % 256 + 1 ≤ i → i < n → IsBare r (part_from p i)) → (c : ℕ) → is_within r c ≡ true → row / 16 * 16 + 16 ≤ row_of c → row_of c < row / 4096 * 4096 + 16 * n → at_cell w c ≡ None
bare_rows w r row n p is bound sheet bare c within l u =
    let s = within_parts r c within in
    let same : row_of c / 4096 ≡ row / 4096 = omega (arith, l, u, bound) in
    row_cell w c (omega (arith, u, bound, sheet))
    ∙ ap (λ i. in_band (in_page (part_from w i) (c / 16384 / 16 % 256)) (c / 16384 % 16) (c % 16384)) same
    ∙ ap (λ o. in_band (in_page o (c / 16384 / 16 % 256)) (c / 16384 % 16) (c % 16384)) is
    ∙ bare (c / 16384 / 16 % 256) (omega (arith, l, same)) (omega (arith, u, same)) (c / 16384 % 16) (c % 16384) (omega arith) s.2 s.3

pub bare_below : {V : Type 0} (w : Pages V) (r : Area) (row column next : ℕ) → ((c : ℕ) → is_ahead r (place row column) c ≡ true → row_of c < row / 16 * 16 + 16 → at_cell w c ≡ None)
    → ((c : ℕ) → is_within r c ≡ true → row / 16 * 16 + 16 ≤ row_of c → row_of c < next → at_cell w c ≡ None) → (c : ℕ) → is_ahead r (place row column) c ≡ true → row_of c < next → at_cell w c ≡ None
bare_below w r row column next none bare c h u = ⊎_elim (λ q. none c h q) (λ q. bare c (ahead_within r (place row column) c h) q u) (cases_lt (row_of c) (row / 16 * 16 + 16))
