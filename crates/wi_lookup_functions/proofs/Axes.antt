-- What stands along the lines of a rectangle, by its rows or by its columns.
use Rattle.wi_lookup_functions.proofs.Words.{◌≡◌, ℕ, ℤ, ◌<◌, Bool, true, List, Ok, refl, sym, ap, ◌∙◌, Area, is_within, ErrorKind, Value, arguments_in, area_at, region_of, value_at, to_whole, position_among, Axis, Rows, Columns, cell_along, cell_in_line, line_count, line_width, width_in}
use Rattle.std.proofs.Common.{Result}
use Rattle.wi_arguments.specs.declared.argument.Argument as given
use Rattle.wi_arguments.proofs.Given as arguments
use Rattle.wi_lookup_functions.proofs.Chains.{IsAsked, order_in, sought_in}
use Rattle.wi_lookup_functions.proofs.NoValues.{nth_within}
use Rattle.wi_lookup_functions.proofs.CellsByPlace.{cell_at}

pub width_is : (axis : Axis) (cells : ℕ → Value) (r : Area) → width_in axis (region_of cells r) ≡ line_width axis r
width_is Rows cells r = refl
width_is Columns cells r = refl

pub placed_along : (axis : Axis) (cells : ℕ → Value) (r : Area) (k : ℤ) (n : ℕ) (o : Result ℕ ErrorKind) → n ≡ line_width axis r → o ≡ position_among n k → position_among (width_in axis (region_of cells r)) k ≡ o
placed_along axis cells r k n o e h = ap (λ (m : ℕ). position_among m k) (width_is axis cells r ∙ sym e) ∙ sym h

pub along_is : (axis : Axis) (cells : ℕ → Value) (r : Area) (line i : ℕ) → line < line_count axis r → i < line_width axis r → cell_in_line axis (region_of cells r) line i ≡ cells (cell_along axis r line i)
along_is Rows cells r line i h k = cell_at cells r line i h k
along_is Columns cells r line i h k = cell_at cells r i line k h

pub along_within : (axis : Axis) (r : Area) (line i : ℕ) → line < line_count axis r → i < line_width axis r → is_within r (cell_along axis r line i) ≡ true
along_within Rows r line i h k = nth_within r line i h k
along_within Columns r line i h k = nth_within r i line k h

pub asked : (cells : ℕ → Value) (args : List given.Argument) (s : Value) (r : Area) (k : ℤ) (b : Bool) →
    sought_in (arguments_in cells args) ≡ Ok s → Ok r ≡ area_at args 1 → to_whole (value_at (arguments_in cells args) 2) ≡ Ok k → order_in (arguments_in cells args) ≡ Ok b → IsAsked (arguments_in cells args) s (region_of cells r) k b
asked cells args s r k b g h l m = record { sought_is = g; region_is = arguments.region_is args 1 (Ok r) h cells; number_is = l; order_is = m }
