-- Where a walk through a rectangle begins, and what rows without a band have.
use Rattle.wi_tiles.proofs.Words.{◌≡◌, ℕ, ◌+◌, ◌*◌, ◌/◌, ◌%◌, ◌<◌, ◌≤◌, List, ◌∷◌, Option, Some, None, sym, ap, arith, ◌∙◌, ⊎_elim, zero, suc, refl, cond, subst, true, false, ◌&&◌, nat_le, filter, IsSome, ◌≢◌, keys_of, true≢false, cases_eq, and_parts, and_from, leb-true, le-leb, Area, row_of, column_of, Pages, Page, Band, at_cell, is_ahead, with_entry, entries_from, slot, in_page, band_at, in_band, IsStart, at_part, part_from, at_window, at_sorted, find as find_part, within_from, within_parts}
use Rattle.std.proofs.Common.{Bool}
use Rattle.std.specs.List.{find}
use Rattle.wi_tiles.proofs.CellLemmas.{digits}
use Rattle.wi_tiles.proofs.Outcomes.{nothing_some, some_none}

-- what a cell has is what its band has in its line and its column
in_pages : {V : Type 0} (w : Pages V) (p r k : ℕ) → (p % 256 ≡ r / 4096) × (p / 256 % 256 ≡ r / 16 % 256) × (p / 256 / 256 % 4096 ≡ k / 4) × (p / 256 / 256 / 4096 ≡ r % 16 * 4 + k % 4) → at_window (at_window (at_sorted slot)) w p ≡ in_band (band_at w r) (r % 16) k
in_pages {V} w p r k d = ap (λ i. at_part (at_window (at_sorted slot)) (part_from w i) (p / 256)) d.0 ∙ page (part_from w (r / 4096))
  where
    band : (o : Option (Band V)) → at_part (at_sorted slot) o (p / 256 / 256) ≡ in_band o (r % 16) k
    band None = refl
    band (Some ts) =
        ap (λ g. at_part slot (find_part g ts) (p / 256 / 256 / 4096)) d.2
        ∙ ap (λ b. at_part slot (find_part (k / 4) ts) b) (d.3 ∙ (let e : r % 16 * 4 + k % 4 ≡ 4 * (r % 16) + k % 4 = omega arith in e))

    page : (o : Option (Page V)) → at_part (at_window (at_sorted slot)) o (p / 256) ≡ in_band (in_page o (r / 16 % 256)) (r % 16) k
    page None = refl
    page (Some q) = ap (λ i. at_part (at_sorted slot) (part_from q i) (p / 256 / 256)) d.1 ∙ band (part_from q (r / 16 % 256))

pub row_cell : {V : Type 0} (w : Pages V) (c : ℕ) → c < 17179869184 → at_cell w c ≡ in_band (band_at w (c / 16384)) (c / 16384 % 16) (c % 16384)
row_cell w c h = in_pages w _ (c / 16384) (c % 16384) (digits (c / 16384) (c % 16384) (omega arith) (omega arith))

-- rows without a band in a page, and pages that aren't there
pub page_gap : {V : Type 0} (w : Pages V) (row n : ℕ) (p : Page V) → part_from w (row / 4096) ≡ Some p → n ≤ 256 → ((i : ℕ) → row / 16 % 256 ≤ i → i < n → part_from p i ≡ None) → (r : ℕ) → row ≤ r → r < row / 4096 * 4096 + 16 * n → band_at w r ≡ None
page_gap w row n p is bound gap r l u =
    let same : r / 4096 ≡ row / 4096 = omega (arith, l, u, bound) in
    ap (λ i. in_page (part_from w i) (r / 16 % 256)) same ∙ ap (λ o. in_page o (r / 16 % 256)) is ∙ gap (r / 16 % 256) (omega (arith, l, same)) (omega (arith, u, same))

-- what a cell of a rectangle tells of its row and its column
pub sides : (r : Area) (from a : ℕ) → is_ahead r from a ≡ true → (from ≤ a) × (row_of r.first ≤ row_of a) × (row_of a ≤ row_of r.last) × (column_of r.first ≤ column_of a) × (column_of a ≤ column_of r.last)
sides r from a h =
    let o = and_parts (nat_le from a) _ h in
    let p = within_parts r a o.1 in
    (leb-true _ _ o.0, p.0, p.1, p.2, p.3)

pub is_inside : (r : Area) (from a : ℕ) → from ≤ a → row_of r.first ≤ row_of a → row_of a ≤ row_of r.last → column_of r.first ≤ column_of a → column_of a ≤ column_of r.last → is_ahead r from a ≡ true
is_inside r from a h i j k l = and_from _ _ (le-leb _ _ h) (within_from r a i j k l)

pub starts_below : (r : Area) (from : ℕ) → row_of r.first ≤ row_of from → column_of r.last < column_of from → column_of r.first ≤ column_of r.last → IsStart r from (row_of from + 1) (column_of r.first)
starts_below r from l right o = record {
  top = omega (arith, l);
  left = omega arith;
  right = o;
  after = omega arith;
  all = λ c h. let s = sides r from c h in omega (arith, s.0, s.3, s.4, right);
}

-- a search through the entries
module _ {V : Type 0} (f : ℕ → Option V) (p q : ℕ → Bool) where
  abbrev pub sought : List (ℕ × V) → Option ℕ
  sought es = find p (filter q (keys_of es))

  passed : (k : ℕ) (v : V) (es : List (ℕ × V)) → (p k && q k) ≡ false → sought ((k, v) ∷ es) ≡ sought es
  passed k v es h = at (p k) (q k) refl refl h
    where
      at : (a b : Bool) → p k ≡ a → q k ≡ b → (a && b) ≡ false → sought ((k, v) ∷ es) ≡ sought es
      at true true e d z = absurd (true≢false z)
      at true false e d z = ap (λ t. find p (cond t (k ∷ filter q (keys_of es)) (filter q (keys_of es)))) d
      at false true e d z = ap (λ t. find p (cond t (k ∷ filter q (keys_of es)) (filter q (keys_of es)))) d ∙ ap (λ t. cond t (Some k) (sought es)) e
      at false false e d z = ap (λ t. find p (cond t (k ∷ filter q (keys_of es)) (filter q (keys_of es)))) d

  not_both : (b : Bool) (k : ℕ) (v : V) → (p k && q k) ≡ b → f k ≡ Some v → ((p k && q k) ≡ true → f k ≡ None) → b ≡ false
  not_both false k v z e none = refl
  not_both true k v z e none = absurd (some_none v (sym e ∙ none z))

  pub sought_none : (s n : ℕ) → ((b : ℕ) → s ≤ b → b < s + n → (p b && q b) ≡ true → f b ≡ None) → sought (entries_from f s n) ≡ None
  sought_none s zero none = refl
  sought_none s (suc n) none = at (f s) refl (sought_none (suc s) n (λ b l u. none b (omega arith) (omega arith)))
    where
      at : (o : Option V) → f s ≡ o → sought (entries_from f (suc s) n) ≡ None → sought (with_entry s o (entries_from f (suc s) n)) ≡ None
      at None e rest = rest
      at (Some v) e rest = passed s v (entries_from f (suc s) n) (not_both (p s && q s) s v refl e (none s (omega arith) (omega arith))) ∙ rest

  pub sought_some : (s n a : ℕ) → s ≤ a → a < s + n → IsSome (f a) → p a ≡ true → q a ≡ true → ((b : ℕ) → s ≤ b → b < a → (p b && q b) ≡ true → f b ≡ None) → sought (entries_from f s n) ≡ Some a
  sought_some s zero a l u there pa qa none = absurd (omega arith)
  sought_some s (suc n) a l u there pa qa none = ⊎_elim here (λ ne. later ne (f s) refl (sought_some (suc s) n a (omega (arith, ne)) (omega arith) there pa qa (λ b m. none b (omega arith)))) (cases_eq a s)
    where
      at : a ≡ s → (o : Option V) → IsSome o → sought (with_entry s o (entries_from f (suc s) n)) ≡ Some a
      at e None z = absurd (nothing_some V z)
      at e (Some v) z = ap (λ t. find p (cond t (s ∷ filter q (keys_of (entries_from f (suc s) n))) (filter q (keys_of (entries_from f (suc s) n))))) (ap q (sym e) ∙ qa) ∙ ap (λ t. cond t (Some s) (sought (entries_from f (suc s) n))) (ap p (sym e) ∙ pa) ∙ ap (λ c. Some c) (sym e)

      here : a ≡ s → sought (entries_from f s (suc n)) ≡ Some a
      here e = at e (f s) (subst (λ c. IsSome (f c)) e there)

      later : a ≢ s → (o : Option V) → f s ≡ o → sought (entries_from f (suc s) n) ≡ Some a → sought (with_entry s o (entries_from f (suc s) n)) ≡ Some a
      later ne None e rest = rest
      later ne (Some v) e rest = passed s v (entries_from f (suc s) n) (not_both (p s && q s) s v refl e (none s (omega arith) (omega (arith, ne)))) ∙ rest
