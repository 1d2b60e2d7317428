-- Laws of the definitions.
use Rattle.std.specs.Prelude.{◌≡◌, ℕ, ◌*◌, ◌<◌, true, Some, Ok}
use Rattle.wi_values.specs.Address.{columns, rows, address_text, rect_of, is_within}
use Rattle.wi_values.specs.AddressReading.{read_address}
use Rattle.wi_values.specs.Inner.Import.{imported}
use Rattle.wi_values.specs.declared.value.Value.TheVariants.{Number}
use Rattle.wi_fraction.specs.Number.{Number as Numbers}
use Rattle.wi_fraction.specs.Text.{text_of}

-- the text of each cell's address reads back to that address
abbrev pub AddressesReadBack : Type 0
AddressesReadBack = (a : ℕ) → a < rows * columns → read_address (address_text a) ≡ Ok a

-- a rectangle is the same whichever corner comes first, and its corners lie within it
abbrev pub CornersMayTurn : Type 0
CornersMayTurn = (a b : ℕ) → (rect_of a b ≡ rect_of b a) × (is_within (rect_of a b) a ≡ true)

-- the shown text of each number is taken for that number
abbrev pub NumbersReadBack : Type 0
NumbersReadBack = (x : Numbers) → imported (text_of x) ≡ Some (Number x)
