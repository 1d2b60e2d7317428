-- Where a reference is found, as a reader goes.
use Rattle.std.specs.Prelude.{ℕ, ◌+◌, ◌-◌, Bool, ◌&&◌, ◌==◌, nat_lt, if◌then◌else◌, List, length, take, drop, slice_index, Option, None}
use Rattle.std.specs.Str.{byte}
use Rattle.wi_lexer.specs.Cell.{WrittenCell}
use Rattle.wi_lexer.specs.Inner.Cell.{cell_of, cell_len}

-- the bytes between `[.` and `]`
abbrev pub inside : List ℕ → List ℕ
inside text = take (length text - 3) (drop 2 text)

-- whether the text begins with `[.` and ends with `]`
abbrev pub is_bracketed : List ℕ → Bool
is_bracketed text = nat_lt 2 (length text) && (slice_index text 0 == byte "[" && (slice_index text 1 == byte "." && slice_index text (length text - 1) == byte "]"))

-- the cell of a reference `[.CELL]`
unfoldable pub reference_of : List ℕ → Option WrittenCell
reference_of text = if is_bracketed text then cell_of (inside text) else None

-- the length of `[.CELL` at the front, or 0 where it doesn't stand there
unfoldable pub first_len : List ℕ → ℕ
first_len bs = if ((slice_index bs 0 == byte "[" && slice_index bs 1 == byte ".") && nat_lt 0 (cell_len (drop 2 bs))) then 2 + cell_len (drop 2 bs) else 0

-- the length of the reference at the front, or 0 where none stands there
unfoldable pub reference_len : List ℕ → ℕ
reference_len bs = if (nat_lt 0 (first_len bs) && slice_index (drop (first_len bs) bs) 0 == byte "]") then first_len bs + 1 else 0
