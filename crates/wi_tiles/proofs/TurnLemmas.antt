-- The next tile of which a rectangle has something.
use Rattle.wi_tiles.proofs.Words.{◌≡◌, ℕ, ◌+◌, ◌*◌, ◌/◌, ◌%◌, ◌<◌, ◌≤◌, List, [], ◌∷◌, length, Option, Some, None, sym, ap, arith, ◌∙◌, ⊎_elim, refl, subst, true, Bool, ◌&&◌, ◌==◌, nat_le, IsSome, IfSome, slice_index_or, min, Bor, bit_at, w64, trailing_zeros, cases_lt, bit_at-zero, ◌≢◌, Area, place, row_of, column_of, is_within, Pages, Band, at_cell, is_ahead, cell, slot, HasNoneAbove, HasNoneFrom, band_at, in_band, at_part, key, find as find_part, bit_of, cell_in, in_band_tile, tile_at, is_left, AreTiles, AreOfBand, IsPlace, IsInside, HasBits, IsNextTile, IsRest, GoesOn, AreBeside, IsTurn, filled, within_from, within_parts}
use Rattle.wi_tiles.proofs.BandLemmas.{one_key}
use Rattle.wi_tiles.proofs.Counts.{first_counts, line_whole, lines_whole}
use Rattle.wi_tiles.proofs.Keys.{key_read}
use Rattle.wi_tiles.proofs.LineLemmas.{key_rises}
use Rattle.wi_tiles.proofs.NextLemmas.{row_cell, sides}
use Rattle.wi_tiles.proofs.Outcomes.{nothing_some}
use Rattle.wi_tiles.proofs.Sorts.{part_at}
use Rattle.wi_tiles.proofs.WalkLemmas.{same_band, tile_cell, nothing_but, ahead_within, ahead_from, row_in, column_in, left_from, bit_small}

cell_below : (c : ℕ) → row_of c < 1048576 → c < 17179869184
cell_below c h = omega (arith, h)

-- tiles of a row's band
module _ {V : Type 0} (w : Pages V) (r : Area) (from : ℕ) (ts : Band V) (of : AreOfBand w r from ts) where
  pub tiles_of : (row : ℕ) → row / 16 ≡ from / 16 → AreOfBand w r row ts
  tiles_of row same g l u = ap (λ o. in_band_tile o g) (same_band w row from same) ∙ of g l u

  pub cell_of : (c : ℕ) → c < 17179869184 → is_within r c ≡ true → row_of c / 16 ≡ from / 16 → at_cell w c ≡ cell ts (row_of c % 16) (column_of c)
  cell_of c h m same = let s = within_parts r c m in row_cell w c h ∙ band (band_at w (row_of c)) (tiles_of (row_of c) same (column_of c / 4) (omega (arith, s.2)) (omega (arith, s.3)))
    where
      band : (o : Option (Band V)) → in_band_tile o (column_of c / 4) ≡ find_part (column_of c / 4) ts → in_band o (row_of c % 16) (column_of c) ≡ cell ts (row_of c % 16) (column_of c)
      band None e = ap (λ x. at_part slot x (4 * (row_of c % 16) + column_of c % 4)) e
      band (Some us) e = ap (λ x. at_part slot x (4 * (row_of c % 16) + column_of c % 4)) e

-- bits of one tile, in the rows from one to another
module _ {V : Type 0} (w : Pages V) (r : Area) (row low column g left corner : ℕ) (ts : Band V) (t : List (Option V)) (of : AreOfBand w r row ts) (is : find_part g ts ≡ Some t)
    (few : column_of r.first / 4 ≤ g) (many : g ≤ column_of r.last / 4) (first : column_of r.first ≤ column)
    (top : row_of r.first ≤ row) (down : row ≤ low) (bottom : low ≤ row_of r.last) (same : low / 16 ≡ row / 16) (sheet : low < 1048576)
    (at : corner ≡ place row (g * 4)) (bits : HasBits r t g column (row % 16) (low % 16) left) where
  corner_row : row_of corner ≡ row
  corner_row = omega (arith, at, many)

  corner_column : column_of corner ≡ g * 4
  corner_column = omega (arith, at, many)

  corner_sheet : corner < 17179869184
  corner_sheet = cell_below corner (omega (arith, corner_row, down, sheet))

  tile_is : tile_at w corner ≡ Some t
  tile_is = ap (λ q. in_band_tile (band_at w q) (column_of corner / 4)) corner_row ∙ ap (λ k. in_band_tile (band_at w row) k) (let e : column_of corner / 4 ≡ g = omega (arith, corner_column) in e) ∙ of g few many ∙ is

  stands : (i : ℕ) → i < 64 → bit_at left i ≡ 1 → (row ≤ row_of (cell_in corner i)) × (row_of (cell_in corner i) ≤ low) × (column ≤ column_of (cell_in corner i)) × (column_of (cell_in corner i) ≤ column_of r.last) × (column_of (cell_in corner i) < g * 4 + 4)
  stands i u e =
      let p = (bits.sound i u e).0 in
      let in_row : row_of (cell_in corner i) ≡ row_of corner / 16 * 16 + i / 4 = row_in corner i u in
      let in_column : column_of (cell_in corner i) ≡ column_of corner / 4 * 4 + i % 4 = column_in corner i in
      (omega (arith, in_row, corner_row, p.0), omega (arith, in_row, corner_row, p.1, same), omega (arith, in_column, corner_column, p.2), omega (arith, in_column, corner_column, p.3), omega (arith, in_column, corner_column))

  pub block_rest : (ahead : ℕ) → place low (g * 4 + 4) ≤ ahead → IsRest w r ahead t corner left
  block_rest ahead h = record {
    stands = tile_is;
    sheet = corner_sheet;
    there = λ i u e. (bits.sound i u e).1;
    inside = λ i u e. let s = stands i u e in within_from r (cell_in corner i) (omega (arith, top, s.0)) (omega (arith, bottom, s.1)) (omega (arith, first, s.2)) s.3;
    order = λ i c u e f m. let s = stands i u e in omega (arith, s.1, s.4, h, f);
  }

  pub block_after : (from : ℕ) → from ≤ place row column → (i : ℕ) → i < 64 → bit_at left i ≡ 1 → from ≤ cell_in corner i
  block_after from h i u e = let s = stands i u e in omega (arith, h, s.0, s.2)

  pub block_set : (c : ℕ) → c < 17179869184 → is_within r c ≡ true → row ≤ row_of c → row_of c ≤ low → column_of c / 4 ≡ g → column ≤ column_of c → IsSome (at_cell w c) → is_left corner left c ≡ true
  block_set c h m i j k l some =
      let s = within_parts r c m in
      let rows : row_of c / 16 ≡ row_of corner / 16 = omega (arith, i, j, same, corner_row) in
      let columns : column_of c / 4 ≡ column_of corner / 4 = omega (arith, k, corner_column) in
      left_from corner left c rows columns (bits.whole (bit_of c) (bit_small c)
      (omega (arith, i, rows, corner_row), omega (arith, j, rows, corner_row, same), omega (arith, k, l), omega (arith, k, s.3))
      (subst (λ o. IsSome o) (tile_cell w corner c t h tile_is rows columns) some))

pub group_small : {V : Type 0} (ts : Band V) (r : Area) (n : ℕ) (x : ℕ × List (Option V)) → AreTiles r ts → n < length ts → x ≡ slice_index_or ts n x → x.0 < 4096
group_small ts r n x tiles h read = omega (arith, key_read ts n x h read, tiles.high n h)

pub group_within : {V : Type 0} (ts : Band V) (r : Area) (x : ℕ × List (Option V)) → AreTiles r ts → length ts ≡ 1 → x ≡ slice_index_or ts 0 x → (column_of r.first / 4 ≤ x.0) × (x.0 ≤ column_of r.last / 4)
group_within ts r x tiles one read =
    let h : 0 < length ts = omega (arith, one) in
    (omega (arith, key_read ts 0 x h read, tiles.low 0 h), omega (arith, key_read ts 0 x h read, tiles.high 0 h))

-- where the search through a band's rows stands: before it nothing of the rectangle has anything
pub record Passed {V : Type 0} (ts : Band V) (r : Area) (from side row column n : ℕ) : Type 0 where
  pub later : from ≤ row
  pub left : column_of r.first ≤ column
  pub right : column ≤ 16384
  pub after : place from side ≤ place row column
  pub clear : (b : ℕ) → is_ahead r (place from side) b ≡ true → b < place row column → cell ts (row_of b % 16) (column_of b) ≡ None
  pub places : IsPlace ts n (column / 4)

pub passed_start : {V : Type 0} (ts : Band V) (r : Area) (from side n : ℕ) → column_of r.first ≤ side → side ≤ 16384 → IsPlace ts n (side / 4) → Passed ts r from side from side n
passed_start ts r from side n left right places = record {
  later = omega arith;
  left = left;
  right = right;
  after = omega arith;
  clear = λ b h l. absurd (omega (arith, (sides r (place from side) b h).0, l));
  places = places;
}

pub passed_next : {V : Type 0} (ts : Band V) (r : Area) (from side row column n start : ℕ) → AreTiles r ts → start ≡ column_of r.first → Passed ts r from side row column n → ((k : ℕ) → column ≤ k → k ≤ column_of r.last → cell ts (row % 16) k ≡ None) → Passed ts r from side (row + 1) start 0
passed_next ts r from side row column n start tiles is passed none = record {
  later = omega (arith, passed.later);
  left = omega (arith, is);
  right = omega (arith, is);
  after = omega (arith, passed.after, passed.right);
  clear = λ b h l. let s = sides r (place from side) b h in ⊎_elim
      (λ q. passed.clear b h q)
      (λ q.
      let in_row : row_of b ≡ row = omega (arith, q, l, is, s.3) in
      ap (λ k. cell ts (k % 16) (column_of b)) in_row ∙ none (column_of b) (omega (arith, q, in_row)) s.4)
      (cases_lt b (place row column));
  places = (λ i l. absurd (omega (arith, l)), λ i l q. omega (arith, is, tiles.low i q));
}

pub passed_end : {V : Type 0} (ts : Band V) (r : Area) (from side row column n below : ℕ) → below ≡ min (from / 16 * 16 + 16) (row_of r.last + 1) → from < 1048576 → below ≤ row → Passed ts r from side row column n
    → (w : Pages V) → AreOfBand w r from ts → HasNoneAbove w r (place from side) (from / 16 * 16 + 16)
passed_end ts r from side row column n below least sheet over passed w of c h u =
    let s = sides r (place from side) c h in
    let start : from ≤ row_of c = omega (arith, s.0) in
    cell_of w r from ts of c (cell_below c (omega (arith, u, sheet))) (ahead_within r (place from side) c h) (omega (arith, start, u)) ∙ passed.clear c h (omega (arith, over, least, s.2, u))

-- the next tile of a line
module _ {V : Type 0} (ts : Bor (Band V)) (r : Area) (from side row column n m left before below corner : ℕ) (x : ℕ × List (Option V)) (tiles : AreTiles r ts.now) (least : below ≡ min (from / 16 * 16 + 16) (row_of r.last + 1)) (sheet : from < 1048576) (top : row_of r.first ≤ from) (test : row < below)
    (passed : Passed ts.now r from side row column n) (next : IsNextTile r ts.now (row % 16) column m left) (small : left < 18446744073709551616) (count : before ≡ filled x.1 (trailing_zeros w64 left)) (read : x ≡ slice_index_or ts.now m x) (at : corner ≡ place row (x.0 * 4)) where
  group : key ts.now m ≡ x.0
  group = key_read ts.now m x next.within read

  found : find_part x.0 ts.now ≡ Some x.1
  found = part_at ts.now m x.0 x tiles.rises next.within group read

  in_band_row : row / 16 ≡ from / 16
  in_band_row = omega (arith, passed.later, test, least)

  low : column_of r.first / 4 ≤ x.0
  low = omega (arith, group, tiles.low m next.within)

  high : x.0 ≤ column_of r.last / 4
  high = omega (arith, group, tiles.high m next.within)

  right : column / 4 ≤ x.0
  right = omega (arith, group, next.right)

  bits : HasBits r x.1 x.0 column (row % 16) (row % 16) left
  bits = subst (λ g. HasBits r x.1 g column (row % 16) (row % 16) left) group (next.bits x.1 (ap (λ g. find_part g ts.now) group ∙ found))

  in_sheet_row : row < 1048576
  in_sheet_row = omega (arith, test, least, sheet)

  pub turn_beside : (w : Pages V) → AreOfBand w r from ts.now → IsTurn w r (place from side) x.1 corner left before true row (x.0 * 4 + 4) (Some ts) (m + 1)
  turn_beside w of = record {
    some = bits.some;
    small = small;
    counts = first_counts x.1 left before bits.some small count;
    follow = λ _. line_whole r x.1 x.0 column (row % 16) left bits;
    rest = block_rest w r row row column x.0 left corner ts.now x.1 of_row found low high passed.left above (omega arith) under refl in_sheet_row at bits (place row (x.0 * 4 + 4)) (omega arith);
    goes = record {
      top = above;
      left = omega (arith, low);
      right = omega (arith, high);
      sheet = omega (arith, in_sheet_row);
      beside = (in_sheet_row, tiles, (λ i l. omega (arith, group, key_rises ts.now i m tiles.rises (omega (arith, l)) next.within), λ i l q. omega (arith, group, tiles.rises m i (omega (arith, l)) q)));
    };
    band = of_row;
    after = block_after w r row row column x.0 left corner ts.now x.1 of_row found low high passed.left above (omega arith) under refl in_sheet_row at bits (place from side) passed.after;
    later = omega (arith, passed.after, right);
    all = λ c h ahead l some.
        let s = sides r (place from side) c ahead in
        let within = ahead_within r (place from side) c ahead in
        let start : from ≤ row_of c = omega (arith, s.0) in
        let same : row_of c / 16 ≡ from / 16 = omega (arith, start, l, high, test, least) in
        let there : IsSome (cell ts.now (row_of c % 16) (column_of c)) = subst (λ o. IsSome o) (cell_of w r from ts.now of c h within same) some in
        ⊎_elim
        (λ q. absurd (nothing_some V (subst (λ o. IsSome o) (passed.clear c ahead q) there)))
        (λ q.
        let in_row : row_of c ≡ row = omega (arith, q, l, high) in
        let beyond : column ≤ column_of c = omega (arith, q, in_row) in
        ⊎_elim
        (λ less. absurd (nothing_some V (subst (λ o. IsSome o) (next.before (column_of c) beyond (omega (arith, less, group))) (subst (λ k. IsSome (cell ts.now (k % 16) (column_of c))) in_row there))))
        (λ more. block_set w r row row column x.0 left corner ts.now x.1 of_row found low high passed.left above (omega arith) under refl in_sheet_row at bits c h within (omega (arith, in_row)) (omega (arith, in_row)) (omega (arith, more, l, in_row)) beyond some)
        (cases_lt (column_of c) (x.0 * 4)))
        (cases_lt c (place row column));
  }
    where
      of_row : AreOfBand w r row ts.now
      of_row = tiles_of w r from ts.now of row in_band_row

      above : row_of r.first ≤ row
      above = omega (arith, top, passed.later)

      under : row ≤ row_of r.last
      under = omega (arith, test, least)

-- the only tile of a band
module _ {V : Type 0} (ts : Band V) (r : Area) (row column last left before corner mask all rows : ℕ) (whole : Bool) (x : ℕ × List (Option V)) (tiles : AreTiles r ts) (one : length ts ≡ 1) (top : row_of r.first ≤ row) (bottom : row ≤ row_of r.last) (sheet : row_of r.last < 1048576)
    (least : last ≡ min (row_of r.last) (row / 16 * 16 + 15)) (first : column ≡ column_of r.first) (small : left < 18446744073709551616) (read : x ≡ slice_index_or ts 0 x)
    (mask_sound : (i : ℕ) → i < 64 → bit_at mask i ≡ 1 → IsInside r x.0 column (row % 16) (last % 16) i) (mask_whole : (i : ℕ) → i < 64 → IsInside r x.0 column (row % 16) (last % 16) i → bit_at mask i ≡ 1)
    (sound : (i : ℕ) → i < 64 → bit_at left i ≡ 1 → (bit_at mask i ≡ 1) × IsSome (slot x.1 i)) (each : (i : ℕ) → i < 64 → bit_at mask i ≡ 1 → IsSome (slot x.1 i) → bit_at left i ≡ 1) where
  only : 0 < length ts
  only = omega (arith, one)

  key_is : key ts 0 ≡ x.0
  key_is = key_read ts 0 x only read

  found_one : find_part x.0 ts ≡ Some x.1
  found_one = part_at ts 0 x.0 x tiles.rises only key_is read

  bits_of : left ≢ 0 → HasBits r x.1 x.0 column (row % 16) (last % 16) left
  bits_of some = record {
    some = some;
    sound = λ i u e. let p = sound i u e in (mask_sound i u p.0, p.1);
    whole = λ i u inside there. each i u (mask_whole i u inside) there;
  }

  few : column_of r.first / 4 ≤ x.0
  few = omega (arith, key_is, tiles.low 0 only)

  many : x.0 ≤ column_of r.last / 4
  many = omega (arith, key_is, tiles.high 0 only)

  down : row ≤ last
  down = omega (arith, least, bottom)

  end : last ≤ row_of r.last
  end = omega (arith, least)

  same_band_rows : last / 16 ≡ row / 16
  same_band_rows = omega (arith, least, down)

  pub turn_alone : corner ≡ place row (x.0 * 4) → left ≢ 0 → before ≡ filled x.1 (trailing_zeros w64 left) → (whole ≡ true → all ≡ left) → ((i : ℕ) → i < 64 → (bit_at rows i == 1) ≡ (nat_le (row % 16) (i / 4) && nat_le (i / 4) (last % 16)))
      → ((i : ℕ) → i < 64 → bit_at rows i ≡ 1 → IsSome (slot x.1 i) → bit_at all i ≡ 1) → (w : Pages V) → AreOfBand w r row ts → IsTurn w r (place row column) x.1 corner left before whole (last + 1) column None 0
  turn_alone at some count same between every w of = record {
    some = some;
    small = small;
    counts = first_counts x.1 left before some small count;
    follow = λ t. lines_whole r x.1 x.0 column (row % 16) (last % 16) left all rows (bits_of some) (same t) between every;
    rest = block_rest w r row last column x.0 left corner ts x.1 of found_one few many from_first top down end same_band_rows last_sheet at (bits_of some) (place (last + 1) column) (omega (arith, many));
    goes = record {
      top = omega (arith, top, down);
      left = omega (arith, first);
      right = omega (arith, first);
      sheet = omega (arith, last_sheet);
      beside = tt;
    };
    band = tt;
    after = block_after w r row last column x.0 left corner ts x.1 of found_one few many from_first top down end same_band_rows last_sheet at (bits_of some) (place row column) (omega arith);
    later = omega (arith, down);
    all = λ c h ahead l there.
        let s = sides r (place row column) c ahead in
        let within = ahead_within r (place row column) c ahead in
        let start : row ≤ row_of c = omega (arith, s.0) in
        let until : row_of c ≤ last = omega (arith, l, s.3, first) in
        let same : row_of c / 16 ≡ row / 16 = omega (arith, start, until, same_band_rows) in
        block_set w r row last column x.0 left corner ts x.1 of found_one few many from_first top down end same_band_rows last_sheet at (bits_of some) c h within start until
        (one_key ts (row_of c % 16) (column_of c) one (subst (λ o. IsSome o) (cell_of w r row ts of c h within same) there) ∙ key_is) (omega (arith, first, s.3)) there;
  }
    where
      from_first : column_of r.first ≤ column
      from_first = omega (arith, first)

      last_sheet : last < 1048576
      last_sheet = omega (arith, end, sheet)

  pub none_alone : left ≡ 0 → (w : Pages V) → AreOfBand w r row ts → HasNoneAbove w r (place row column) (row / 16 * 16 + 16)
  none_alone z w of c ahead u = nothing_but (at_cell w c) (λ there.
      let s = sides r (place row column) c ahead in
      let within = ahead_within r (place row column) c ahead in
      let start : row ≤ row_of c = omega (arith, s.0) in
      let until : row_of c ≤ last = omega (arith, u, s.2, least) in
      let same : row_of c / 16 ≡ row / 16 = omega (arith, start, u) in
      let h : c < 17179869184 = cell_below c (omega (arith, s.2, sheet)) in
      let stands : IsSome (cell ts (row_of c % 16) (column_of c)) = subst (λ o. IsSome o) (cell_of w r row ts of c h within same) there in
      let group : column_of c / 4 ≡ x.0 = one_key ts (row_of c % 16) (column_of c) one stands ∙ key_is in
      let value : cell ts (row_of c % 16) (column_of c) ≡ slot x.1 (bit_of c) = ap (λ g. at_part slot (find_part g ts) (4 * (row_of c % 16) + column_of c % 4)) group ∙ ap (λ o. at_part slot o (4 * (row_of c % 16) + column_of c % 4)) found_one ∙ ap (λ b. slot x.1 b) (let e : 4 * (row_of c % 16) + column_of c % 4 ≡ bit_of c = omega arith in e) in
      omega (arith, sym (each (bit_of c) (bit_small c) (mask_whole (bit_of c) (bit_small c) (omega (arith, start, same), omega (arith, until, same, same_band_rows), omega (arith, group, first, s.3), omega (arith, group, s.4))) (subst (λ o. IsSome o) value stands)) ∙ ap (λ n. bit_at n (bit_of c)) z ∙ bit_at-zero (bit_of c)))

-- where no tile of a band lies in the rectangle
pub none_empty : {V : Type 0} (r : Area) (row column : ℕ) (ts : Band V) → length ts ≡ 0 → row < 1048576 → (w : Pages V) → AreOfBand w r row ts → HasNoneAbove w r (place row column) (row / 16 * 16 + 16)
none_empty {V} r row column ts none sheet w of c ahead u =
    let start : row ≤ row_of c = omega (arith, (sides r (place row column) c ahead).0) in
    cell_of w r row ts of c (cell_below c (omega (arith, u, sheet))) (ahead_within r (place row column) c ahead) (omega (arith, start, u)) ∙ by ts none
  where
    by : (us : Band V) → length us ≡ 0 → cell us (row_of c % 16) (column_of c) ≡ None
    by [] e = refl
    by (t ∷ us) e = absurd (omega (arith, e))

-- tiles of the band of a row
pub band_tiles : {V : Type 0} (w : Pages V) (r : Area) (row : ℕ) (band ts : Band V) → band_at w row ≡ Some band → ((g : ℕ) → column_of r.first / 4 ≤ g → g ≤ column_of r.last / 4 → find_part g ts ≡ find_part g band) → AreOfBand w r row ts
band_tiles w r row band ts is same g l u = ap (λ o. in_band_tile o g) is ∙ sym (same g l u)

pub gap_none : {V : Type 0} (w : Pages V) (r : Area) (row column next : ℕ) → next ≤ 1048576 → ((q : ℕ) → row ≤ q → q < next → band_at w q ≡ None) → HasNoneAbove w r (place row column) next
gap_none w r row column next bound bare c h u =
    row_cell w c (cell_below c (omega (arith, u, bound))) ∙ ap (λ o. in_band o (c / 16384 % 16) (c % 16384)) (bare (row_of c) (omega (arith, (sides r (place row column) c h).0)) u)

-- a turn from a later cell on, where nothing comes before that
pub turn_earlier : {V : Type 0} (w : Pages V) (r : Area) (from start : ℕ) (t : List (Option V)) (corner left before : ℕ) (whole : Bool) (row column : ℕ) (tiles : Option (Bor (Band V))) (n : ℕ) → from ≤ start → ((c : ℕ) → is_ahead r from c ≡ true → c < start → at_cell w c ≡ None) → IsTurn w r start t corner left before whole row column tiles n → IsTurn w r from t corner left before whole row column tiles n
turn_earlier {V} w r from start t corner left before whole row column tiles n h clear turn = record {
  some = turn.some;
  small = turn.small;
  counts = turn.counts;
  follow = turn.follow;
  rest = turn.rest;
  goes = turn.goes;
  band = turn.band;
  after = λ i u e. omega (arith, h, turn.after i u e);
  later = omega (arith, h, turn.later);
  all = λ c sheet ahead l some. ⊎_elim
      (λ q. absurd (nothing_some V (subst (λ o. IsSome o) (clear c ahead q) some)))
      (λ q. turn.all c sheet (ahead_from r start c q (ahead_within r from c ahead)) l some)
      (cases_lt c start);
}

pub none_earlier : {V : Type 0} (w : Pages V) (r : Area) (from start : ℕ) → ((c : ℕ) → is_ahead r from c ≡ true → c < start → at_cell w c ≡ None) → HasNoneFrom w r start → HasNoneFrom w r from
none_earlier w r from start clear none c ahead = ⊎_elim (λ q. clear c ahead q) (λ q. none c (ahead_from r start c q (ahead_within r from c ahead))) (cases_lt c start)

-- cells before a row's first column stand in the rows before
pub before_row : {V : Type 0} (w : Pages V) (r : Area) (from next start : ℕ) → start ≡ column_of r.first → ((c : ℕ) → is_ahead r from c ≡ true → row_of c < next → at_cell w c ≡ None) → (c : ℕ) → is_ahead r from c ≡ true → c < place next start → at_cell w c ≡ None
before_row w r from next start is none c ahead l = none c ahead (omega (arith, l, is, (sides r from c ahead).3))

-- where tiles are at hand
pub goes_beside : {V : Type 0} (r : Area) (row column : ℕ) (o : Option (Bor (Band V))) (ts : Bor (Band V)) (n : ℕ) → o ≡ Some ts → GoesOn r row column o n → (row < 1048576) × AreTiles r ts.now × IsPlace ts.now n (column / 4)
goes_beside r row column o ts n is goes = subst (λ q. IfSome q (λ us. (row < 1048576) × AreTiles r us.now × IsPlace us.now n (column / 4))) is goes.beside

pub band_beside : {V : Type 0} (w : Pages V) (r : Area) (row : ℕ) (o : Option (Bor (Band V))) (ts : Bor (Band V)) → o ≡ Some ts → AreBeside w r row o → AreOfBand w r row ts.now
band_beside w r row o ts is band = subst (λ q. AreBeside w r row q) is band

-- where the search through the bands stands
pub record Reached {V : Type 0} (w : Pages V) (r : Area) (from row column : ℕ) : Type 0 where
  pub top : row_of r.first ≤ row
  pub sheet : row ≤ 1048576
  pub left : column_of r.first ≤ column
  pub right : column ≤ 16384
  pub after : from ≤ place row column
  pub clear : (b : ℕ) → is_ahead r from b ≡ true → b < place row column → at_cell w b ≡ None

pub reached_start : {V : Type 0} (w : Pages V) (r : Area) (row column : ℕ) → row_of r.first ≤ row → row ≤ 1048576 → column_of r.first ≤ column → column ≤ 16384 → Reached w r (place row column) row column
reached_start w r row column top sheet left right = record {
  top = top;
  sheet = sheet;
  left = left;
  right = right;
  after = omega arith;
  clear = λ b h l. absurd (omega (arith, (sides r (place row column) b h).0, l));
}

pub reached_next : {V : Type 0} (w : Pages V) (r : Area) (from row column next start : ℕ) → start ≡ column_of r.first → Reached w r from row column → (row < next) × (next ≤ 1048576) × HasNoneAbove w r (place row column) next → Reached w r from next start
reached_next w r from row column next start is reached none =
    let later : row < next = none.0 in
    record {
      top = omega (arith, reached.top, later);
      sheet = none.1;
      left = omega (arith, is);
      right = omega (arith, is);
      after = omega (arith, reached.after, reached.right, later);
      clear = before_row w r from next start is (λ c ahead u. ⊎_elim
          (λ q. reached.clear c ahead q)
          (λ q. none.2 c (ahead_from r (place row column) c q (ahead_within r from c ahead)) u)
          (cases_lt c (place row column)));
    }

pub reached_end : {V : Type 0} (w : Pages V) (r : Area) (from row column : ℕ) → row_of r.last < row → Reached w r from row column → HasNoneFrom w r from
reached_end w r from row column over reached c ahead = reached.clear c ahead (omega (arith, over, (sides r from c ahead).2))
