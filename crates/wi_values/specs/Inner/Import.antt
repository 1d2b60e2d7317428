-- What a text that comes from outside a formula is taken for, as a reader finds it. A law ties it to what texts are
-- taken for.
use Rattle.std.specs.Prelude.{ℕ, List, [], true, false, Option, Some, None, codes, nat_lt, length, if◌then◌else◌}
use Rattle.std.specs.Str.{bytes_eq}
use Rattle.wi_fraction.specs.Number.{Number as Numbers}
use Rattle.wi_fraction.specs.Inner.Reading.{read}
use Rattle.wi_values.specs.declared.value.Value.{Value}
use Rattle.wi_values.specs.declared.value.Value.TheVariants.{Empty, Number, Text, Logical}
use Rattle.wi_values.specs.Import.{max_text}

-- what a text that is no number is taken for: a truth value, a text, or nothing where it is too long
abbrev pub words_value : List ℕ → Option Value
words_value bs =
    if bytes_eq bs (codes "TRUE") then Some (Logical true)
    else (if bytes_eq bs (codes "FALSE") then Some (Logical false)
    else (if nat_lt max_text (length bs) then None else Some (Text bs)))

abbrev pub number_or : Option Numbers → Option Value → Option Value
number_or (Some x) o = Some (Number x)
number_or None o = o

-- the value of a text, or nothing where it is a text that is too long
unfoldable pub imported : List ℕ → Option Value
imported bs = number_or (read bs) (words_value bs)

-- the value of a field: nothing at all is Empty
abbrev pub field_value : List ℕ → Option Value
field_value [] = Some Empty
field_value bs = imported bs
