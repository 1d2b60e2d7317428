-- In which columns something stands.
use Rattle.std.specs.Prelude.{◌≡◌, ℕ, ◌+◌, ◌*◌, ◌/◌, ◌%◌, ◌<◌, ◌≤◌, Option, None, IsSome}
use Rattle.std.specs.Int.{bit_at}
use Rattle.wi_values.specs.Address.{Area, column_of}
use Rattle.wi_tiles.specs.Inner.Cells.{Page, Band}
use Rattle.wi_tiles.specs.Inner.Lines.{slot}
use Rattle.wi_tiles.specs.Inner.Next.{in_band}
use Rattle.wi_tiles.specs.Inner.Parts.{at_window}
use Rattle.wi_tiles.specs.Inner.Sorted.{at_sorted}
use Rattle.wi_tiles.specs.Inner.Within.{IsInside}

-- the remainder by 64 of the column of a path through a page's bands
abbrev pub column_bit : ℕ → ℕ
column_bit p = p / 256 % 16 * 4 + p / 1048576 % 4

-- what a page has at a path has a bit for its column
abbrev pub HasColumns : {V : Type 0} → Page V → ℕ → Type 0
HasColumns w columns = (p : ℕ) → IsSome (at_window (at_sorted slot) w p) → bit_at columns (column_bit p) ≡ 1

-- each column of a rectangle has a bit
abbrev pub HasEach : Area → ℕ → Type 0
HasEach r columns = (k : ℕ) → column_of r.first ≤ k → k ≤ column_of r.last → bit_at columns (k % 64) ≡ 1

-- each bit of the group of a rectangle's last column stands, in each line, that lies in its columns
abbrev pub HasLast : Area → ℕ → Type 0
HasLast r mask = (i : ℕ) → i < 64 → IsInside r (column_of r.last / 4) (column_of r.first) 0 15 i → bit_at mask i ≡ 1

-- a band has nothing in a rectangle's columns
abbrev pub IsBare : {V : Type 0} → Area → Option (Band V) → Type 0
IsBare r band = (line k : ℕ) → line < 16 → column_of r.first ≤ k → k ≤ column_of r.last → in_band band line k ≡ None
