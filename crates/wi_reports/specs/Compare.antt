-- `compare S T RECT`: for each cell of the rectangle, in row-major order, whose values in S and T differ, its address,
-- the text in S, the text in T, and their difference.
use Rattle.std.specs.Prelude.{ℕ, if◌then◌else◌, [], ◌∷◌}
use Rattle.std.specs.List.{flat_map}
use Rattle.std.specs.Option.{option_map_or}
use Rattle.wi_fraction.specs.Arithmetic.{sum_of, negated}
use Rattle.wi_fraction.specs.Text.{text_of, Bytes}
use Rattle.wi_values.specs.Address.{Area, cells_of, address_text}
use Rattle.wi_values.specs.Value.{shown_text, error_name}
use Rattle.wi_values.specs.declared.value.Value.{Value}
use Rattle.wi_values.specs.declared.value.Value.TheVariants.{Number}
use Rattle.wi_values.specs.declared.value.ErrorKind.TheVariants.{BadNumber}
use Rattle.wi_sessions.specs.Pictures.{same_value}
use Rattle.wi_csv.specs.Row.{row}

-- T less S, where both are numbers; `#NUM!` where that doesn't fit
abbrev pub difference_text : Value → Value → Bytes
difference_text (Number x) (Number y) = option_map_or text_of (sum_of y (negated x)) (error_name BadNumber)
difference_text v w = []

-- where `s` and `t` give what each cell shows in S and in T
abbrev pub cells_compared : (ℕ → Value) → (ℕ → Value) → Area → Bytes
cells_compared s t area =
    flat_map (λ a. if same_value (s a) (t a) then [] else
    row (address_text a ∷ shown_text (s a) ∷ shown_text (t a) ∷ difference_text (s a) (t a) ∷ [])) (cells_of area)
