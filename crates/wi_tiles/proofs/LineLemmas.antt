-- A search along a line of a band, tile by tile.
use Rattle.wi_tiles.proofs.Words.{◌≡◌, ℕ, ◌+◌, ◌*◌, ◌/◌, ◌%◌, ◌<◌, ◌≤◌, List, length, Option, Some, None, sym, ap, arith, ◌∙◌, ⊎_elim, subst, refl, slice_index_or, IsSome, bit_at, cases_lt, cases_eq, bit_at-zero, ◌≢◌, Area, column_of, Band, at_part, cell, slot, key, Rises, AreTiles, IsPlace, IsInside, HasBits, IsNextTile}
use Rattle.wi_tiles.proofs.Keys.{key_read, find_none}
use Rattle.wi_tiles.proofs.Sorts.{part_at}
use Rattle.wi_tiles.proofs.WalkLemmas.{nothing_but}

pub key_rises : {S : Type 0} (ts : List (ℕ × S)) (i j : ℕ) → Rises ts → i ≤ j → j < length ts → key ts i ≤ key ts j
key_rises ts i j rises h q = ⊎_elim (λ l. omega (arith, rises i j l q)) (λ l. omega (arith, ap (λ k. key ts k) (let e : i ≡ j = omega arith in e))) (cases_lt i j)

-- where the search stands: a column whose group does not come any more has nothing
pub record Searched {V : Type 0} (r : Area) (ts : Band V) (line column place : ℕ) : Type 0 where
  pub clear : (k : ℕ) → column ≤ k → k ≤ column_of r.last → ((j : ℕ) → place ≤ j → j < length ts → key ts j ≢ k / 4) → cell ts line k ≡ None
  pub right : (i : ℕ) → place ≤ i → i < length ts → column / 4 ≤ key ts i

pub searched_none : {V : Type 0} (r : Area) (ts : Band V) (line column first : ℕ) → IsPlace ts first (column / 4) → Searched r ts line column first
searched_none r ts line column first places = record {
  clear = λ k f e apart. ap (λ o. at_part slot o (4 * line + k % 4)) (find_none ts (k / 4) (λ j q. ⊎_elim (λ l z. omega (arith, places.0 j l, z, f)) (λ l. apart j l q) (cases_lt j first)));
  right = places.1;
}

pub searched_all : {V : Type 0} (r : Area) (ts : Band V) (line column place : ℕ) → length ts ≤ place → Searched r ts line column place → (k : ℕ) → column ≤ k → k ≤ column_of r.last → cell ts line k ≡ None
searched_all r ts line column place h searched k f e = searched.clear k f e (λ j l q. absurd (omega (arith, h, l, q)))

-- the tile at the place
module _ {V : Type 0} (r : Area) (ts : Band V) (line column place left mask : ℕ) (x : ℕ × List (Option V)) (tiles : AreTiles r ts) (line_within : line < 16) (h : place < length ts) (read : x ≡ slice_index_or ts place x) (searched : Searched r ts line column place)
    (mask_sound : (i : ℕ) → i < 64 → bit_at mask i ≡ 1 → IsInside r x.0 column line line i) (mask_whole : (i : ℕ) → i < 64 → IsInside r x.0 column line line i → bit_at mask i ≡ 1)
    (sound : (i : ℕ) → i < 64 → bit_at left i ≡ 1 → (bit_at mask i ≡ 1) × IsSome (slot x.1 i)) (whole : (i : ℕ) → i < 64 → bit_at mask i ≡ 1 → IsSome (slot x.1 i) → bit_at left i ≡ 1) where
  group : key ts place ≡ x.0
  group = key_read ts place x h read

  here : (k : ℕ) → k / 4 ≡ x.0 → cell ts line k ≡ slot x.1 (4 * line + k % 4)
  here k e = ap (λ o. at_part slot o (4 * line + k % 4)) (part_at ts place (k / 4) x tiles.rises h (group ∙ sym e) read)

  pub searched_more : left ≡ 0 → Searched r ts line column (place + 1)
  searched_more zero_left = record {
    clear = λ k f e apart. ⊎_elim
        (λ same. here k same ∙ nothing_but (slot x.1 (4 * line + k % 4)) (λ some.
        let inside : IsInside r x.0 column line line (4 * line + k % 4) = (omega arith, omega arith, omega (arith, same, f), omega (arith, same, e)) in
        nothing_set (4 * line + k % 4) (whole (4 * line + k % 4) (omega (arith, line_within)) (mask_whole (4 * line + k % 4) (omega (arith, line_within)) inside) some)))
        (λ ne. searched.clear k f e (λ j l q. ⊎_elim (λ m. apart j (omega arith) q) (λ m z. ne (sym z ∙ ap (λ i. key ts i) (let s : j ≡ place = omega arith in s) ∙ group)) (cases_lt place j)))
        (cases_eq (k / 4) x.0);
    right = λ i l q. searched.right i (omega (arith, l)) q;
  }
    where
      nothing_set : (i : ℕ) → bit_at left i ≡ 1 → ⊥
      nothing_set i e = omega (arith, sym e ∙ ap (λ n. bit_at n i) zero_left ∙ bit_at-zero i)

  pub next_found : left ≢ 0 → IsNextTile r ts line column place left
  next_found some = record {
    within = h;
    some = some;
    right = searched.right place (omega arith) h;
    bits = λ t is.
        let same : x.1 ≡ t = some_same (sym (part_at ts place (key ts place) x tiles.rises h refl read) ∙ is) in
        subst (λ q. HasBits r q (key ts place) column line line left) same
        (subst (λ g. HasBits r x.1 g column line line left) (sym group) (record {
          some = some;
          sound = λ i u e. let p = sound i u e in (mask_sound i u p.0, p.1);
          whole = λ i u inside there. whole i u (mask_whole i u inside) there;
        }));
    before = λ k f less.
        let low : k < x.0 * 4 = omega (arith, less, group) in
        let last : k ≤ column_of r.last = omega (arith, less, tiles.high place h) in
        searched.clear k f last (λ j l q z. omega (arith, key_rises ts place j tiles.rises l q, group, z, low));
  }
    where
      some_same : {a b : List (Option V)} → Some a ≡ Some b → a ≡ b
      some_same e = grind (arith, e)
