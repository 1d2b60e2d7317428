-- Where the cells of a rectangle stand in row-major order, and how many are left to search.
use Rattle.wi_values.proofs.Words.{◌≡◌, ◌&&◌, ℕ, ◌+◌, ◌-◌, ◌<◌, ◌≤◌, true, Option, Some, None, IfSome, arith, and_from, and_parts, leb-true, le-leb, Area, columns, place, row_of, column_of, is_within}
use Rattle.std.specs.Prelude.{nat_le}

-- ---- a cell's row and column

pub row_of_place : (r c : ℕ) → c < columns → row_of (place r c) ≡ r
row_of_place r c h = omega arith

pub column_of_place : (r c : ℕ) → c < columns → column_of (place r c) ≡ c
column_of_place r c h = omega arith

pub column_within : (a : ℕ) → column_of a < columns
column_within a = omega arith

-- ---- the cells of a rectangle

pub within_parts : (r : Area) (a : ℕ) → is_within r a ≡ true → (row_of r.first ≤ row_of a) × (row_of a ≤ row_of r.last) × (column_of r.first ≤ column_of a) × (column_of a ≤ column_of r.last)
within_parts r a h =
    let p = and_parts (nat_le (row_of r.first) (row_of a) && nat_le (row_of a) (row_of r.last)) _ h in
    let rows = and_parts (nat_le (row_of r.first) (row_of a)) _ p.0 in
    let cols = and_parts (nat_le (column_of r.first) (column_of a)) _ p.1 in
    (leb-true _ _ rows.0, leb-true _ _ rows.1, leb-true _ _ cols.0, leb-true _ _ cols.1)

pub within_from : (r : Area) (a : ℕ) → row_of r.first ≤ row_of a → row_of a ≤ row_of r.last → column_of r.first ≤ column_of a → column_of a ≤ column_of r.last → is_within r a ≡ true
within_from r a above below left right =
    and_from (nat_le (row_of r.first) (row_of a) && nat_le (row_of a) (row_of r.last)) _ (and_from (nat_le (row_of r.first) (row_of a)) _ (le-leb _ _ above) (le-leb _ _ below))
    (and_from (nat_le (column_of r.first) (column_of a)) _ (le-leb _ _ left) (le-leb _ _ right))

-- they come at or after its first, and at or before its last
pub within_between : (r : Area) (a : ℕ) → is_within r a ≡ true → (r.first ≤ a) × (a ≤ r.last)
within_between r a h =
    let p = within_parts r a h in
    let above = p.0 in
    let below = p.1 in
    let left = p.2 in
    let right = p.3 in
    (omega arith, omega arith)

-- ---- how many places there are from this one to the last

abbrev pub places_left : Area → Option ℕ → ℕ
places_left r None = 0
places_left r (Some a) = (r.last + 1) - a

-- a search that goes on after a cell has fewer places left
pub fewer_places : (r : Area) (start cell : ℕ) (next : Option ℕ) → start ≤ cell → cell ≤ r.last → IfSome next (λ a. (cell < a) × (a ≤ r.last)) → places_left r next < places_left r (Some start)
fewer_places r start cell None l m h = omega (arith, l, m)
fewer_places r start cell (Some a) l m h = omega (arith, l, m, h.0, h.1)
