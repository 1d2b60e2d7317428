-- The first cell that is equal to a value.
use Rattle.std.specs.Prelude.{◌≡◌, ℕ, Option}
use Rattle.std.specs.List.{find}
use Rattle.std.specs.Ordering.{is_eq}
use Rattle.wi_values.specs.Address.{Area, cells_of}
use Rattle.wi_values.specs.declared.value.Value.{Value}
use Rattle.wi_standard_functions.specs.Matching.{is_match}
use Rattle.wi_arguments.specs.Arguments.{KnownAgrees}

-- whatever the cells hold of which this is known, it is the first of the rectangle that MATCH finds equal
abbrev pub IsFirstEqual : (ℕ → Option Value) → Area → Value → Option ℕ → Type 0
IsFirstEqual known r sought found = (cells : ℕ → Value) → KnownAgrees known cells → found ≡ find (λ c. is_match is_eq sought (cells c)) (cells_of r)
