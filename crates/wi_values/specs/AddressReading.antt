-- What a text reads as: an address, or a rectangle.
use Rattle.std.specs.Prelude.{ℕ, ◌+◌, ◌-◌, ◌&&◌, ◌==◌, nat_lt, nat_le, take, drop, Option, Some, None, Result, Ok, Err, ok_or, if◌then◌else◌}
use Rattle.std.specs.List.{prefix_len, position}
use Rattle.std.specs.Char.{is_ascii_alphabetic}
use Rattle.std.specs.Str.{byte}
use Rattle.std.specs.Str.Parse.{digits_value}
use Rattle.wi_values.specs.Address.{columns, rows, place, letters_value, is_row_number, Area, rect_of}
use Rattle.wi_values.specs.declared.address.AddressFault.{AddressFault}
use Rattle.wi_values.specs.declared.address.AddressFault.TheVariants.{Shape, Outside}
use Rattle.wi_fraction.specs.Text.{Bytes}

-- row and column count from 1
abbrev pub cell_at : ℕ → ℕ → Option ℕ
cell_at row column =
    if (nat_lt 0 row && nat_le row rows) && (nat_lt 0 column && nat_le column columns)
    then Some (place (row - 1) (column - 1)) else None

unfoldable pub address_at : Bytes → Bytes → Option ℕ
address_at letters digits = cell_at (digits_value 10 digits) (letters_value letters)

-- the address that a text spells: letters, then a row number
unfoldable pub read_address : Bytes → Result ℕ AddressFault
read_address bs =
    let k = prefix_len is_ascii_alphabetic bs in
    if nat_lt 0 k && is_row_number (drop k bs) then ok_or (address_at (take k bs) (drop k bs)) Outside else Err Shape

-- the rectangle with these corners; the wrong shape of either comes before a cell outside the sheet
abbrev pub corners : Result ℕ AddressFault → Result ℕ AddressFault → Result Area AddressFault
corners (Ok a) (Ok b) = Ok (rect_of a b)
corners (Ok a) (Err e) = Err e
corners (Err Shape) b = Err Shape
corners (Err Outside) (Ok b) = Err Outside
corners (Err Outside) (Err e) = Err e

-- the corners, where the first colon is known: without one the text is that of a single cell
abbrev pub read_corners : Bytes → Option ℕ → Result Area AddressFault
read_corners bs None = corners (read_address bs) (read_address bs)
read_corners bs (Some k) = corners (read_address (take k bs)) (read_address (drop (k + 1) bs))

-- the rectangle that a text spells: an address, or two with a colon between
unfoldable pub read_rect : Bytes → Result Area AddressFault
read_rect bs = read_corners bs (position (λ c. c == byte ":") bs)
