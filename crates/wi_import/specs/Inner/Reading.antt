-- What an import of fields comes to, as a function. A law ties it to what imports come to.
use Rattle.std.specs.Prelude.{ℕ, nat_le, Bool, not, ◌||◌, if◌then◌else◌, List, map, Option, Some, None, is_some, Result, Ok, Err, IsUtf8}
use Rattle.std.specs.List.{list_any}
use Rattle.std.specs.Str.{is_utf8}
use Rattle.wi_values.specs.Address.{rows, columns, place}
use Rattle.wi_values.specs.Inner.Import.{field_value}
use Rattle.wi_values.specs.declared.value.Value.{Value}
use Rattle.wi_values.specs.Imported.{IsImported}
use Rattle.wi_parser.specs.declared.content.Content.{Content}
use Rattle.wi_parser.specs.Sheet.{constant}
use Rattle.wi_import.specs.declared.fault.ImportFault.{ImportFault}
use Rattle.wi_import.specs.declared.fault.ImportFault.TheVariants.{BadField, TooLong, OutOfSheet}
use Rattle.wi_import.specs.Fields.{Field}

-- the cell for which a field is
abbrev pub field_cell : Field → ℕ
field_cell f = place f.row f.column

-- a field is a text
abbrev pub IsText : Field → Type 0
IsText f = IsUtf8 f.bytes

-- a field is too long for a text, and nothing else
abbrev pub IsTooLong : Field → Type 0
IsTooLong f = IsImported f.bytes None

abbrev pub is_bad : List ℕ → Bool
is_bad bytes = not (is_utf8 bytes)

abbrev pub is_too_long : List ℕ → Bool
is_too_long bytes = not (is_some (field_value bytes))

abbrev pub is_outside : Field → Bool
is_outside f = nat_le rows f.row || nat_le columns f.column

abbrev pub content_for : Option Value → Option Content
content_for None = None
content_for (Some v) = constant v

-- what the cell of a field of these bytes gets
abbrev pub content_of : List ℕ → Option Content
content_of bytes = content_for (field_value bytes)

abbrev pub change_of : Field → ℕ × Option Content
change_of f = (field_cell f, content_of f.bytes)

abbrev pub first_fault : Bool → Bool → Bool → Option ImportFault
first_fault bad long outside = if bad then Some BadField else (if long then Some TooLong else (if outside then Some OutOfSheet else None))

-- the first fault, in their order, that a field has
abbrev pub fault_among : List Field → Option ImportFault
fault_among fields =
    first_fault (list_any (λ f. is_bad f.bytes) fields) (list_any (λ f. is_too_long f.bytes) fields) (list_any is_outside fields)

abbrev pub unless_fault : Option ImportFault → List (ℕ × Option Content) → Result (List (ℕ × Option Content)) ImportFault
unless_fault None changes = Ok changes
unless_fault (Some fault) changes = Err fault

-- the changes, or the first fault
abbrev pub import_of : List Field → Result (List (ℕ × Option Content)) ImportFault
import_of fields = unless_fault (fault_among fields) (map change_of fields)
