-- `formula ADDR`: address and content.
use Rattle.std.specs.Prelude.{ℕ, List, [], ◌∷◌, ◌++◌, codes, Option, Some, None}
use Rattle.wi_values.specs.Address.{address_text}
use Rattle.wi_values.specs.Value.{shown_text}
use Rattle.wi_values.specs.declared.value.Value.TheVariants.{Text}
use Rattle.wi_parser.specs.declared.content.Content.{Content}
use Rattle.wi_parser.specs.declared.content.Content.TheVariants.{Constant, Formula}
use Rattle.wi_parser.specs.Printing.{printed}
use Rattle.wi_parser.specs.Sheet.{Sheet, content_of}
use Rattle.wi_csv.specs.Row.{row}
use Rattle.wi_fraction.specs.Text.{Bytes}

-- a text after `'`, and another constant as it is shown
abbrev pub content_text : Option Content → Bytes
content_text None = []
content_text (Some (Constant (Text bytes))) = codes "'" ++ bytes
content_text (Some (Constant v)) = shown_text v
content_text (Some (Formula t)) = printed t

abbrev pub content_record : Sheet → ℕ → Bytes
content_record sheet at = row (address_text at ∷ content_text (content_of sheet at) ∷ [])
