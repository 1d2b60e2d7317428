-- The shown text of a value (OpenFormula, "Types").
use Rattle.std.specs.Prelude.{Bool, true, false, codes, []}
use Rattle.wi_fraction.specs.Text.{Bytes, text_of}
use Rattle.wi_values.specs.declared.value.ErrorKind.{ErrorKind}
use Rattle.wi_values.specs.declared.value.ErrorKind.TheVariants.{NotAvailable, DivisionByZero, UnknownName, BadNumber, BadReference, BadValue, Circular}
use Rattle.wi_values.specs.declared.value.Value.{Value}
use Rattle.wi_values.specs.declared.value.Value.TheVariants.{Empty, Number, Text, Logical, Fault}

abbrev pub error_name : ErrorKind → Bytes
error_name NotAvailable = codes "#N/A"
error_name DivisionByZero = codes "#DIV/0!"
error_name UnknownName = codes "#NAME?"
error_name BadNumber = codes "#NUM!"
error_name BadReference = codes "#REF!"
error_name BadValue = codes "#VALUE!"
error_name Circular = codes "#CIRC!"

abbrev pub logical_name : Bool → Bytes
logical_name true = codes "TRUE"
logical_name false = codes "FALSE"

unfoldable pub shown_text : Value → Bytes
shown_text Empty = []
shown_text (Number x) = text_of x
shown_text (Text t) = t
shown_text (Logical b) = logical_name b
shown_text (Fault e) = error_name e
