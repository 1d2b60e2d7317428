-- A criterion as a relation and an operand.
use Rattle.std.specs.Prelude.{Bool, List, [], ◌∷◌, drop, length, nat_eq, if◌then◌else◌}
use Rattle.std.specs.List.{starts_with}
use Rattle.std.specs.Ordering.{is_eq}
use Rattle.wi_fraction.specs.Text.{Bytes}
use Rattle.wi_values.specs.declared.value.Value.{Value}
use Rattle.wi_values.specs.declared.value.Value.TheVariants.{Text}
use Rattle.wi_standard_functions.specs.Criterion.{constant_of, operators}
use Rattle.wi_standard_functions.specs.Matching.{is_match, sought_for}

-- met by a value where the relation holds of the operand and the value
pub record Criterion : Type 0 where
  pub relation : Value → Value → Bool
  pub operand : Value

abbrev pub is_met_by : Criterion → Value → Bool
is_met_by c v = c.relation c.operand v

abbrev pub equal_to : Value → Criterion
equal_to operand = record { relation = is_match is_eq; operand = operand }

abbrev pub criterion_by : List (Bytes × (Value → Value → Bool)) → Bytes → Criterion
criterion_by [] text = equal_to (constant_of text)
criterion_by (o ∷ os) text =
    if starts_with nat_eq text o.0 then record { relation = o.1; operand = constant_of (drop (length o.0) text) } else
    criterion_by os text

-- the criterion that a value is
abbrev pub criterion_of : Value → Criterion
criterion_of (Text text) = criterion_by operators text
criterion_of v = equal_to (sought_for v)
