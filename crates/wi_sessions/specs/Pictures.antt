-- Pictures of a sheet: the values that a session was last shown, and what has changed since.
use Rattle.std.specs.Prelude.{◌≡◌, ℕ, ◌*◌, Bool, not, ◌==◌, Decides, List, [], ◌∷◌, map, filter, unwrap_or}
use Rattle.std.specs.List.{range_with_len}
use Rattle.std.specs.Ordering.{nat_cmp}
use Rattle.std.specs.Map.{lookup}
use Rattle.std.specs.BTreeMap.{is_at, insert_entry}
use Rattle.wi_values.specs.Address.{rows, columns}
use Rattle.wi_values.specs.declared.value.Value.{Value}
use Rattle.wi_values.specs.declared.value.Value.TheVariants.{Empty}
use Rattle.wi_values.proofs.Equal.{the_equality}
pub mod Laws

abbrev pub equality : (test : Value → Value → Bool) × ((v w : Value) → Decides (test v w) (v ≡ w))
equality = the_equality

abbrev pub same_value : Value → Value → Bool
same_value = equality.0

-- values at cells, in the order of their addresses
abbrev pub Picture : Type 0
Picture = List (ℕ × Value)

-- Empty where it names none
abbrev pub value_in : Picture → ℕ → Value
value_in picture a = unwrap_or (lookup (is_at (nat_cmp a)) picture) Empty

-- the picture with a value at a cell; Empty takes the cell out
abbrev pub with_value : Picture → ℕ → Value → Picture
with_value picture a Empty = filter (λ e. not (e.0 == a)) picture
with_value picture a v = insert_entry nat_cmp picture a v

-- the picture with a list of changes put in, one after another
abbrev pub with_changes : Picture → Picture → Picture
with_changes picture [] = picture
with_changes picture (e ∷ es) = with_changes (with_value picture e.0 e.1) es

unfoldable pub sheet_size : ℕ
sheet_size = rows * columns

-- all cells of the sheet whose value isn't the picture's, in row-major order, each with its value
abbrev pub changes_since : Picture → (ℕ → Value) → Picture
changes_since picture shown =
    map (λ a. (a, shown a)) (filter (λ a. not (same_value (value_in picture a) (shown a))) (range_with_len 0 sheet_size))
