-- Where a walk through a rectangle stands.
use Rattle.std.specs.Prelude.{◌≡◌, ◌≢◌, ℕ, zero, suc, ◌+◌, ◌-◌, ◌*◌, ◌/◌, ◌%◌, ◌^◌, bit_and, ◌<◌, ◌≤◌, Bool, true, ◌&&◌, ◌||◌, ◌==◌, nat_le, is_some, if◌then◌else◌, List, length, Option, Some, None, IsSome, IfSome, IfNone}
use Rattle.std.specs.Borrow.{Bor}
use Rattle.std.specs.Int.{bit_at}
use Rattle.wi_values.specs.Address.{Area, place, row_of, column_of, is_within}
use Rattle.wi_tiles.specs.Inner.Cells.{Pages, Band, at_cell, is_ahead}
use Rattle.wi_tiles.specs.Inner.Lines.{slot, cell}
use Rattle.wi_tiles.specs.Inner.Next.{band_at}
use Rattle.wi_tiles.specs.Inner.Sorted.{find, key, Rises}

-- a value that is lent, with its cell
abbrev pub entry : {V : Type 0} → ℕ × Bor V → ℕ × V
entry x = (x.0, x.1.now)

-- the bit of a cell in its tile
abbrev pub bit_of : ℕ → ℕ
bit_of c = row_of c % 16 * 4 + column_of c % 4

-- the cell of a bit of the tile in which a cell stands
abbrev pub cell_in : ℕ → ℕ → ℕ
cell_in corner b = place (row_of corner / 16 * 16 + b / 4) (column_of corner / 4 * 4 + b % 4)

-- a value that is lent, with a cell of its tile and its bit there
abbrev pub step_entry : {V : Type 0} → ℕ × ℕ × Bor V → ℕ × V
step_entry x = (cell_in x.0 x.1, x.2.now)

-- the tile of a cell
abbrev pub in_band_tile : {V : Type 0} → Option (Band V) → ℕ → Option (List (Option V))
in_band_tile None g = None
in_band_tile (Some ts) g = find g ts

abbrev pub tile_at : {V : Type 0} → Pages V → ℕ → Option (List (Option V))
tile_at w c = in_band_tile (band_at w (row_of c)) (column_of c / 4)

-- a cell stands in the tile of another
abbrev pub in_tile : ℕ → ℕ → Bool
in_tile corner c = row_of c / 16 == row_of corner / 16 && column_of c / 4 == column_of corner / 4

-- and there at one of the bits that are left
abbrev pub is_left : ℕ → ℕ → ℕ → Bool
is_left corner left c = in_tile corner c && bit_at left (bit_of c) == 1

-- it lies in the rectangle, and is left of the tile, or comes at the cell where the walk goes on, or later
abbrev pub is_pending : Area → ℕ → ℕ → ℕ → ℕ → Bool
is_pending r ahead corner left c = (is_left corner left c || nat_le ahead c) && is_within r c

-- the bits from one of a line up to another, the same in each line, and all bits of the lines from one on and up to one
abbrev pub line_of : ℕ → ℕ → ℕ
line_of low high = bit_and (15 / 2 ^ (4 - high)) (15 * 2 ^ low % 2 ^ 64)

abbrev pub lines_of : ℕ → ℕ
lines_of line = line * 1229782938247303441

abbrev pub lines_from : ℕ → ℕ
lines_from top = 18446744073709551615 * 2 ^ (4 * top) % 2 ^ 64

abbrev pub lines_to : ℕ → ℕ
lines_to bottom = 18446744073709551615 / 2 ^ (60 - 4 * bottom)

-- a bit of a group of columns stands in the lines from one to another, from a column on, and in the columns of a
-- rectangle
abbrev pub IsInside : Area → ℕ → ℕ → ℕ → ℕ → ℕ → Type 0
IsInside r g column top bottom i = (top ≤ i / 4) × (i / 4 ≤ bottom) × (column ≤ g * 4 + i % 4) × (g * 4 + i % 4 ≤ column_of r.last)

-- tiles in order, of groups of columns in which the rectangle has columns
pub record AreTiles {V : Type 0} (r : Area) (ts : Band V) : Type 0 where
  pub rises : Rises ts
  pub low : (i : ℕ) → i < length ts → column_of r.first / 4 ≤ key ts i
  pub high : (i : ℕ) → i < length ts → key ts i ≤ column_of r.last / 4

-- a row's band has these tiles there
abbrev pub AreOfBand : {V : Type 0} → Pages V → Area → ℕ → Band V → Type 0
AreOfBand w r row ts = (g : ℕ) → column_of r.first / 4 ≤ g → g ≤ column_of r.last / 4 → in_band_tile (band_at w row) g ≡ find g ts

-- those before a place are of groups left of one, and no others are
abbrev pub IsPlace : {V : Type 0} → Band V → ℕ → ℕ → Type 0
IsPlace ts place g = ((i : ℕ) → i < place → key ts i < g) × ((i : ℕ) → place ≤ i → i < length ts → g ≤ key ts i)

-- how many of the first bits of a tile have something
unfoldable pub filled : {V : Type 0} → List (Option V) → ℕ → ℕ
filled t zero = 0
filled t (suc i) = filled t i + (if is_some (slot t i) then 1 else 0)

-- so many have something before the first of the bits that are left
abbrev pub CountsFirst : {V : Type 0} → List (Option V) → ℕ → ℕ → Type 0
CountsFirst t left before = (b : ℕ) → b < 64 → bit_at left b ≡ 1 → ((i : ℕ) → i < b → bit_at left i ≡ 0) → filled t b ≡ before

-- no bit between those that are left has anything
abbrev pub IsWhole : {V : Type 0} → List (Option V) → ℕ → Type 0
IsWhole t left = (i j k : ℕ) → i < k → k < j → j < 64 → bit_at left i ≡ 1 → bit_at left j ≡ 1 → IsSome (slot t k) → bit_at left k ≡ 1

-- the bits of a tile that have something, and lie in the rectangle's columns from a column on, in the lines from one to
-- another
pub record HasBits {V : Type 0} (r : Area) (t : List (Option V)) (g column top bottom left : ℕ) : Type 0 where
  pub some : left ≢ 0
  pub sound : (i : ℕ) → i < 64 → bit_at left i ≡ 1 → IsInside r g column top bottom i × IsSome (slot t i)
  pub whole : (i : ℕ) → i < 64 → IsInside r g column top bottom i → IsSome (slot t i) → bit_at left i ≡ 1

-- the tile at a place is the first of them that has something in a line from a column on
pub record IsNextTile {V : Type 0} (r : Area) (ts : Band V) (line column n left : ℕ) : Type 0 where
  pub within : n < length ts
  pub some : left ≢ 0
  pub right : column / 4 ≤ key ts n
  pub bits : (t : List (Option V)) → find (key ts n) ts ≡ Some t → HasBits r t (key ts n) column line line left
  pub before : (k : ℕ) → column ≤ k → k < key ts n * 4 → cell ts line k ≡ None

-- the bits that are left have something, lie in the rectangle, and come before what comes behind them
pub record IsRest {V : Type 0} (w : Pages V) (r : Area) (ahead : ℕ) (t : List (Option V)) (corner left : ℕ) : Type 0 where
  pub stands : tile_at w corner ≡ Some t
  pub sheet : corner < 17179869184
  pub there : (i : ℕ) → i < 64 → bit_at left i ≡ 1 → IsSome (slot t i)
  pub inside : (i : ℕ) → i < 64 → bit_at left i ≡ 1 → is_within r (cell_in corner i) ≡ true
  pub order : (i c : ℕ) → i < 64 → bit_at left i ≡ 1 → ahead ≤ c → is_within r c ≡ true → cell_in corner i < c

-- where the walk goes on: in a row from a column on, and if tiles are at hand, those before a place lie left of the
-- column
pub record GoesOn {V : Type 0} (r : Area) (row column : ℕ) (tiles : Option (Bor (Band V))) (n : ℕ) : Type 0 where
  pub top : row_of r.first ≤ row
  pub left : column_of r.first ≤ column
  pub right : column ≤ 16384
  pub sheet : row ≤ 1048576
  pub beside : IfSome tiles (λ ts. (row < 1048576) × AreTiles r ts.now × IsPlace ts.now n (column / 4))

-- those are the tiles of the row's band
abbrev pub AreBeside : {V : Type 0} → Pages V → Area → ℕ → Option (Bor (Band V)) → Type 0
AreBeside w r row tiles = IfSome tiles (λ ts. AreOfBand w r row ts.now)

-- the next tile of which something is to come, at a cell or after it, and where the walk goes on behind that
pub record IsTurn {V : Type 0} (w : Pages V) (r : Area) (from : ℕ) (t : List (Option V)) (corner left before : ℕ) (whole : Bool) (row column : ℕ) (tiles : Option (Bor (Band V))) (n : ℕ) : Type 0 where
  pub some : left ≢ 0
  pub small : left < 18446744073709551616
  pub counts : CountsFirst t left before
  pub follow : whole ≡ true → IsWhole t left
  pub rest : IsRest w r (place row column) t corner left
  pub goes : GoesOn r row column tiles n
  pub band : AreBeside w r row tiles
  pub after : (i : ℕ) → i < 64 → bit_at left i ≡ 1 → from ≤ cell_in corner i
  pub later : from ≤ place row column
  pub all : (c : ℕ) → c < 17179869184 → is_ahead r from c ≡ true → c < place row column → IsSome (at_cell w c) → is_left corner left c ≡ true

-- where a walk stands
pub record IsWalk {V : Type 0} (w : Pages V) (r : Area) (tile : Option (Bor (List (Option V)))) (corner left before : ℕ) (whole : Bool) (row column : ℕ) (tiles : Option (Bor (Band V))) (n : ℕ) : Type 0 where
  pub counted : IfSome tile (λ t. whole ≡ true → CountsFirst t.now left before × IsWhole t.now left)
  pub rest : IfSome tile (λ t. IsRest w r (place row column) t.now corner left)
  pub nothing : IfNone tile (left ≡ 0)
  pub goes : GoesOn r row column tiles n
  pub band : AreBeside w r row tiles

-- the first of the bits that are left, how many before it have something, and what the tile has there
pub record IsFirstLeft {V : Type 0} (t : List (Option V)) (left b place : ℕ) (v : V) : Type 0 where
  pub within : b < 64
  pub set : bit_at left b ≡ 1
  pub first : (i : ℕ) → i < b → bit_at left i ≡ 0
  pub before : filled t b ≡ place
  pub value : slot t b ≡ Some v
