-- The entries of all pages, after a change of one path.
use Rattle.wi_tiles.proofs.Words.{◌≡◌, ℕ, ◌+◌, ◌<◌, ◌≤◌, List, [], ◌∷◌, length, Option, Some, None, sym, ap, arith, ◌∙◌, ⊎_elim, cond, refl, true, false, Bool, ◌↔◌, IsTrue, ◌==◌, if◌then◌else◌, option_map, nat_le, filter, IfSome, IfNone, is_some, not, Bor, from_bool, nat_cmp, option_or, All, keys_of, remove_entry, set_value, is_at, insert_entry, get, IsOrdered, cases_eq, and_parts, eq-eqb, eq-true, eqb-true, ne_eqb, Area, is_within, Pages, path_of, at_cell, is_ahead, cells, entries_of, map_of, slot, IsNext, at_window, at_sorted}
use Rattle.std.specs.List.{find}
use Rattle.wi_tiles.proofs.CellLemmas.{one_cell}
use Rattle.wi_tiles.proofs.EntryLemmas.{entries_same, entries_none, lookup_entries, entries_put, length_put, entries_cut, length_cut, entries_set, length_set, length_entries, entries_rise, entries_below}
use Rattle.wi_tiles.proofs.NextLemmas.{sought_none, sought_some}
use Rattle.wi_tiles.proofs.Windows.{window_none}

-- what the pages have at a path
abbrev pub at_path : {V : Type 0} → Pages V → ℕ → Option V
at_path w p = at_window (at_window (at_sorted slot)) w p

cells_is : cells ≡ 17179869184
unfolding cells
cells_is = refl

pub below : (c : ℕ) → c < 17179869184 → c < cells
below c h = omega (arith, cells_is, h)

pub above : (c : ℕ) → c < cells → c < 17179869184
above c h = omega (arith, cells_is, h)

pub get_is : {V : Type 0} (w : Pages V) (cell : ℕ) → cell < 17179869184 → get nat_cmp (map_of (entries_of w)) cell ≡ at_cell w cell
get_is w cell h = lookup_entries (λ c. at_cell w c) cell cells (below cell h)

pub none_is : {V : Type 0} (w : Pages V) → ((p : ℕ) → at_path w p ≡ None) → entries_of w ≡ []
none_is w nothing = entries_none (λ c. at_cell w c) 0 cells (λ c. nothing (path_of c))

pub no_pages : {V : Type 0} (w : Pages V) → w.1 ≡ [] → entries_of w ≡ []
no_pages w e = none_is w (λ p. window_none (at_window (at_sorted slot)) w.0 w.1 (ap (λ ts. length ts) e) p)

pub same_is : {V : Type 0} (old new : Pages V) → ((p : ℕ) → at_path new p ≡ at_path old p) → entries_of new ≡ entries_of old
same_is old new same = entries_same (λ c. at_cell old c) (λ c. at_cell new c) 0 cells (λ c l u. same (path_of c))

pub rises : {V : Type 0} (w : Pages V) → IsOrdered nat_cmp (map_of (entries_of w))
rises w = entries_rise (λ c. at_cell w c) 0 cells

pub within_sheet : {V : Type 0} (w : Pages V) → All (λ e. e.0 < 17179869184) (entries_of w)
within_sheet w = entries_below (λ c. at_cell w c) 0 cells 17179869184 (omega (arith, cells_is))

pub one_at_most : (b : Bool) → from_bool b ≤ 1
one_at_most true = omega arith
one_at_most false = omega arith

pub length_within : {V : Type 0} (w : Pages V) → length (entries_of w) ≤ 17179869184
length_within w = omega (arith, length_entries (λ c. at_cell w c) 0 cells, cells_is)

-- what stands at a cell's path
pub found : {V : Type 0} (w : Pages V) (cell path : ℕ) → cell < 17179869184 → path ≡ path_of cell → at_path w path ≡ get nat_cmp (map_of (entries_of w)) cell
found w cell path h is = ap (λ p. at_path w p) is ∙ sym (get_is w cell h)

module _ {V : Type 0} (old new : Pages V) (cell path : ℕ) (h : cell < 17179869184) (is : path ≡ path_of cell) where
  abbrev pub Changes : Option V → Type 0
  Changes o = (p : ℕ) → at_path new p ≡ (if p == path then o else at_path old p)

  by_cells : (o : Option V) → Changes o → (c : ℕ) → c < cells → at_cell new c ≡ (if c == cell then o else at_cell old c)
  by_cells o changed c l = one_cell (λ p. at_path new p) (λ p. at_path old p) cell o h (λ p. changed p ∙ ap (λ q. cond (p == q) o (at_path old p)) is) c (above c l)

  stood : (o : Option V) → at_path old path ≡ o → at_cell old cell ≡ o
  stood o e = ap (λ p. at_path old p) (sym is) ∙ e

  pub put_is : (v : V) → at_path old path ≡ None → Changes (Some v) → entries_of new ≡ insert_entry nat_cmp (entries_of old) cell v
  put_is v none changed = entries_put (λ c. at_cell old c) cell cells (below cell h) (λ c. at_cell new c) v (stood None none) (by_cells (Some v) changed)

  pub put_len : (v : V) → at_path old path ≡ None → Changes (Some v) → length (entries_of new) ≡ length (entries_of old) + 1
  put_len v none changed = length_put (λ c. at_cell old c) cell cells (below cell h) (λ c. at_cell new c) v (stood None none) (by_cells (Some v) changed)

  pub cut_is : Changes None → entries_of new ≡ remove_entry (is_at (nat_cmp cell)) (entries_of old)
  cut_is changed = entries_cut (λ c. at_cell old c) cell cells (below cell h) (λ c. at_cell new c) (by_cells None changed)

  pub cut_len : (v : V) → at_path old path ≡ Some v → Changes None → length (entries_of new) + 1 ≡ length (entries_of old)
  cut_len v some changed = length_cut (λ c. at_cell old c) cell cells (below cell h) (λ c. at_cell new c) v (stood (Some v) some) (by_cells None changed)

  -- where nothing stood, nothing is lost
  pub cut_none : at_path old path ≡ None → Changes None → length (entries_of new) ≡ length (entries_of old)
  cut_none none changed = ap length (same_is old new (λ p. changed p ∙ ⊎_elim
      (λ e. ap (λ b. cond b None (at_path old p)) (eq-eqb p path e) ∙ sym (ap (λ q. at_path old q) e ∙ none))
      (λ ne. ap (λ b. cond b None (at_path old p)) (ne_eqb p path ne))
      (cases_eq p path)))

  -- what stands is kept
  stays : (v w : V) → at_path old path ≡ Some w → Changes (option_or (at_path old path) (Some v)) → entries_of new ≡ entries_of old
  stays v w some changed = same_is old new (λ p. changed p ∙ ⊎_elim
      (λ e. ap (λ b. cond b (option_or (at_path old path) (Some v)) (at_path old p)) (eq-eqb p path e) ∙ ap (λ o. option_or o (Some v)) some ∙ sym some ∙ ap (λ q. at_path old q) (sym e))
      (λ ne. ap (λ b. cond b (option_or (at_path old path) (Some v)) (at_path old p)) (ne_eqb p path ne))
      (cases_eq p path))

  -- and what doesn't is put
  comes : (v : V) → at_path old path ≡ None → Changes (option_or (at_path old path) (Some v)) → Changes (Some v)
  comes v none changed p = changed p ∙ ap (λ o. cond (p == path) (option_or o (Some v)) (at_path old p)) none

  abbrev PutMade : V → Bool → Type 0
  PutMade v b = (entries_of new ≡ (if is_some (at_path old path) then entries_of old else insert_entry nat_cmp (entries_of old) cell v)) × (length (entries_of new) ≡ length (entries_of old) + from_bool b)

  pub put_made : (v : V) (b : Bool) → b ≡ not (is_some (at_path old path)) → Changes (option_or (at_path old path) (Some v)) → PutMade v b
  put_made v b e changed = by (at_path old path) refl
    where
      by : (o : Option V) → at_path old path ≡ o → PutMade v b
      by None none =
          let put = comes v none changed in
          let so : b ≡ true = e ∙ ap (λ o. not (is_some o)) none in
          (put_is v none put ∙ sym (ap (λ o. cond (is_some o) (entries_of old) (insert_entry nat_cmp (entries_of old) cell v)) none), put_len v none put ∙ sym (ap (λ t. length (entries_of old) + from_bool t) so))
      by (Some w) some =
          let kept = stays v w some changed in
          let so : b ≡ false = e ∙ ap (λ o. not (is_some o)) some in
          (kept ∙ sym (ap (λ o. cond (is_some o) (entries_of old) (insert_entry nat_cmp (entries_of old) cell v)) some), ap length kept ∙ (let z : length (entries_of old) ≡ length (entries_of old) + 0 = omega arith in z) ∙ sym (ap (λ t. length (entries_of old) + from_bool t) so))

  set_at : (v : V) → option_map (λ _. v) (at_path old path) ≡ option_map (λ _. v) (at_cell old cell)
  set_at v = ap (λ p. option_map (λ _. v) (at_path old p)) is

  set_by : (v : V) → Changes (option_map (λ _. v) (at_path old path)) → (c : ℕ) → c < cells → at_cell new c ≡ (if c == cell then option_map (λ _. v) (at_cell old cell) else at_cell old c)
  set_by v changed c l = by_cells (option_map (λ _. v) (at_path old path)) changed c l ∙ ap (λ o. cond (c == cell) o (at_cell old c)) (set_at v)

  pub set_is : (v : V) → Changes (option_map (λ _. v) (at_path old path)) → entries_of new ≡ set_value (is_at (nat_cmp cell)) (entries_of old) v
  set_is v changed = entries_set (λ c. at_cell old c) cell cells (below cell h) (λ c. at_cell new c) v (set_by v changed)

  pub set_len : (v : V) → Changes (option_map (λ _. v) (at_path old path)) → length (entries_of new) ≡ length (entries_of old)
  set_len v changed = length_set (λ c. at_cell old c) cell cells (below cell h) (λ c. at_cell new c) v (set_by v changed)

-- the first cell of a rectangle that has something, as a search through the entries
pub next_is : {V : Type 0} (w : Pages V) (area : Area) (from a : ℕ) → a < 17179869184 → IsNext w area from a → find (λ c. nat_le from c) (filter (is_within area) (keys_of (entries_of w))) ≡ Some a
next_is w area from a h next =
    let p = and_parts (nat_le from a) _ next.ahead in
    sought_some (λ c. at_cell w c) (λ c. nat_le from c) (is_within area) 0 cells a (omega arith) (omega (arith, below a h)) next.there p.0 p.1 (λ b l u both. next.first b both u)

pub next_none : {V : Type 0} (w : Pages V) (area : Area) (from : ℕ) → ((b : ℕ) → is_ahead area from b ≡ true → at_cell w b ≡ None) → find (λ c. nat_le from c) (filter (is_within area) (keys_of (entries_of w))) ≡ None
next_none w area from none = sought_none (λ c. at_cell w c) (λ c. nat_le from c) (is_within area) 0 cells (λ b l u both. none b both)

pub first_is : {V : Type 0} (w : Pages V) (area : Area) (from : ℕ) (o : Option (ℕ × Bor V)) → IfSome o (λ x. IsNext w area from x.0 × (at_cell w x.0 ≡ Some x.1.now)) → IfSome o (λ x. x.0 < 17179869184) → IfNone o ((b : ℕ) → is_ahead area from b ≡ true → at_cell w b ≡ None) → option_map (λ x. x.0) o ≡ find (λ c. nat_le from c) (filter (is_within area) (keys_of (entries_of w)))
first_is w area from None some within none = sym (next_none w area from none)
first_is w area from (Some x) some within none = sym (next_is w area from x.0 within some.0)

pub first_has : {V : Type 0} (w : Pages V) (area : Area) (from : ℕ) (o : Option (ℕ × Bor V)) → IfSome o (λ x. IsNext w area from x.0 × (at_cell w x.0 ≡ Some x.1.now)) → IfSome o (λ x. x.0 < 17179869184) → IfSome o (λ x. get nat_cmp (map_of (entries_of w)) x.0 ≡ Some x.1.now)
first_has w area from None some within = tt
first_has w area from (Some x) some within = get_is w x.0 within ∙ some.1

-- none are counted where there are none
pub none_counted : {X : Type 0} (n : ℕ) (es : List X) → n ≡ length es → IsTrue (n == 0) ↔ (es ≡ [])
none_counted n [] h = (λ t. refl, λ e. sym (eq-true n 0 h))
none_counted {X} n (x ∷ es) h = (λ t. absurd (some_counted (eqb-true n 0 t)), λ e. absurd (some_listed e))
  where
    some_counted : n ≡ 0 → ⊥
    some_counted z = omega (arith, h, z)

    some_listed : x ∷ es ≡ [] → ⊥
    some_listed e = grind arith
