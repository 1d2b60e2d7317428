-- What an import of fields puts into their cells, or why it is refused.
use Rattle.std.specs.Prelude.{◌≡◌, ℕ, List, [], Option, Some, None, Result, Ok, Err, All, IsUtf8}
use Rattle.std.specs.List.{Any, AllZip}
use Rattle.wi_values.specs.Address.{place}
use Rattle.wi_values.specs.declared.value.Value.{Value}
use Rattle.wi_values.specs.Imported.{IsImported}
use Rattle.wi_parser.specs.declared.content.Content.{Content}
use Rattle.wi_parser.specs.declared.content.Content.TheVariants.{Constant}
use Rattle.wi_import.specs.declared.fault.ImportFault.{ImportFault}
use Rattle.wi_import.specs.declared.fault.ImportFault.TheVariants.{BadField, TooLong, OutOfSheet}
use Rattle.wi_import.specs.Fields.{Field, IsInside}
use Rattle.wi_fraction.specs.Text.{Bytes}

-- an empty field empties its cell; another puts a constant there by the import rule
abbrev pub IsFieldContent : Bytes → Option Content → Type 0
IsFieldContent [] o = o ≡ None
IsFieldContent bytes o = (v : Value) × IsImported bytes (Some v) × (o ≡ Some (Constant v))

abbrev pub IsChange : Field → ℕ × Option Content → Type 0
IsChange f change = (change.0 ≡ place f.row f.column) × IsFieldContent f.bytes change.1

-- One change for each field, in their order. All are UTF-8, and for cells of the sheet, empty ones too. Cells without a
-- field stay.
pub record AreChanges (fields : List Field) (changes : List (ℕ × Option Content)) : Type 0 where
  pub texts : All (λ f. IsUtf8 f.bytes) fields
  pub inside : All IsInside fields
  pub each : AllZip IsChange fields changes

-- The fields are refused for this fault: of those that some field has, the first in this order.
pub data IsFault : List Field → ImportFault → Type 0 where
  bad_field : (fields : List Field) → Any (λ f. IsUtf8 f.bytes → ⊥) fields → IsFault fields BadField
  too_long : (fields : List Field) → All (λ f. IsUtf8 f.bytes) fields → Any (λ f. IsImported f.bytes None) fields → IsFault fields TooLong
  out_of_sheet : (fields : List Field) → All (λ f. IsUtf8 f.bytes) fields → All (λ f. IsImported f.bytes None → ⊥) fields → Any (λ f. IsInside f → ⊥) fields
      → IsFault fields OutOfSheet

-- what an import of fields comes to: the changes, or the fault
abbrev pub IsImport : List Field → Result (List (ℕ × Option Content)) ImportFault → Type 0
IsImport fields (Ok changes) = AreChanges fields changes
IsImport fields (Err fault) = IsFault fields fault
