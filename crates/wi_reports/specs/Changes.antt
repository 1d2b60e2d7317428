-- `changes`: a record for each cell that has changed: its address, its kind and its shown text.
use Rattle.std.specs.Prelude.{ℕ, List, [], ◌∷◌, codes}
use Rattle.std.specs.List.{flat_map}
use Rattle.wi_values.specs.Address.{address_text}
use Rattle.wi_values.specs.Value.{shown_text}
use Rattle.wi_values.specs.declared.value.Value.{Value}
use Rattle.wi_values.specs.declared.value.Value.TheVariants.{Empty, Number, Text, Logical, Fault}
use Rattle.wi_csv.specs.Row.{row}
use Rattle.wi_fraction.specs.Text.{Bytes}
use Rattle.wi_sessions.specs.Pictures.{Picture}

abbrev pub kind_text : Value → Bytes
kind_text Empty = codes "-"
kind_text (Number x) = codes "N"
kind_text (Text t) = codes "T"
kind_text (Logical b) = codes "L"
kind_text (Fault e) = codes "E"

abbrev pub change_records : Picture → Bytes
change_records es = flat_map (λ e. row (address_text e.0 ∷ kind_text e.1 ∷ shown_text e.1 ∷ [])) es
