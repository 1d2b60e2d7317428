-- Criteria: their operands, and what meets them.
use Rattle.std.proofs.Common.{ap, refl}
use Rattle.std.specs.Prelude.{◌≡◌, Bool, true, false, List, [], ◌∷◌, drop, length, nat_eq, Some, unwrap_or, if◌then◌else◌}
use Rattle.std.specs.List.{starts_with}
use Rattle.wi_fraction.specs.Text.{Bytes}
use Rattle.wi_values.proofs.Imports.{imported_exactly}
use Rattle.wi_values.specs.declared.value.Value.{Value}
use Rattle.wi_values.specs.declared.value.Value.TheVariants.{Empty, Number, Text, Logical, Fault}
use Rattle.wi_standard_functions.specs.Criterion.{constant_of, meets_criterion, meets_text, operators}
use Rattle.wi_standard_functions.specs.Criterion.Laws.{OperandsAreImported}
use Rattle.wi_standard_functions.specs.Inner.Criteria.{Criterion, criterion_by, criterion_of, is_met_by}

pub operands_are_imported : OperandsAreImported
operands_are_imported text v h = ap (λ o. unwrap_or o (Text text)) ((imported_exactly text (Some v)).0 h)

-- ---- what meets a criterion

-- the criterion of a text that begins with an operator
abbrev behind : Bytes × (Value → Value → Bool) → Bytes → Criterion
behind o text = record { relation = o.1; operand = constant_of (drop (length o.0) text) }

by_operator : (os : List (Bytes × (Value → Value → Bool))) (text : Bytes) (v : Value) → meets_text os text v ≡ is_met_by (criterion_by os text) v
by_operator [] text v = refl
by_operator (o ∷ os) text v = at (starts_with nat_eq text o.0) (by_operator os text v)
  where
    at : (b : Bool) → meets_text os text v ≡ is_met_by (criterion_by os text) v
        → (if b then o.1 (constant_of (drop (length o.0) text)) v else meets_text os text v) ≡ is_met_by (if b then behind o text else criterion_by os text) v
    at true h = refl
    at false h = h

-- a value meets the criterion that another is where that one's relation to the operand holds
pub meets_is : (w v : Value) → meets_criterion w v ≡ is_met_by (criterion_of w) v
meets_is (Text text) v = by_operator operators text v
meets_is Empty v = refl
meets_is (Number x) v = refl
meets_is (Logical b) v = refl
meets_is (Fault e) v = refl
