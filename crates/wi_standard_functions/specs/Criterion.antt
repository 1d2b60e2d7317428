-- Criteria, as COUNTIF and SUMIF take them. What a criterion compares, and with what, is this project's rule.
pub mod Laws
use Rattle.std.specs.Prelude.{Bool, not, ◌&&◌, List, [], ◌∷◌, drop, length, codes, nat_eq, unwrap_or, Option, if◌then◌else◌}
use Rattle.std.specs.List.{starts_with}
use Rattle.std.specs.Ordering.{is_eq, is_lt, is_le, is_gt, is_ge}
use Rattle.wi_fraction.specs.Text.{Bytes}
use Rattle.wi_values.specs.Imported.{IsImported}
use Rattle.wi_values.proofs.Imports.{the_import}
use Rattle.wi_values.specs.declared.value.Value.{Value}
use Rattle.wi_values.specs.declared.value.Value.TheVariants.{Text}
use Rattle.wi_standard_functions.specs.Matching.{can_be_found, is_match, sought_for}

abbrev pub is_unequal : Value → Value → Bool
is_unequal operand v = can_be_found v && not (is_match is_eq operand v)

abbrev pub import_of : (text : Bytes) → (o : Option Value) × IsImported text o
import_of text = the_import text

abbrev pub constant_of : Bytes → Value
constant_of text = unwrap_or (import_of text).0 (Text text)

-- longer ones first
abbrev pub operators : List (Bytes × (Value → Value → Bool))
operators =
    (codes "<>", is_unequal) ∷ (codes "<=", is_match is_le) ∷ (codes ">=", is_match is_ge)
    ∷ (codes "=", is_match is_eq) ∷ (codes "<", is_match is_lt) ∷ (codes ">", is_match is_gt) ∷ []

-- the relation of the first operator that the text begins with, to the constant that follows; else equality to the
-- whole text's
abbrev pub meets_text : List (Bytes × (Value → Value → Bool)) → Bytes → Value → Bool
meets_text [] text v = is_match is_eq (constant_of text) v
meets_text (o ∷ os) text v = if starts_with nat_eq text o.0 then o.1 (constant_of (drop (length o.0) text)) v else meets_text os text v

-- the second value meets the criterion that the first is; one that is no Text stands for equality
abbrev pub meets_criterion : Value → Value → Bool
meets_criterion (Text text) v = meets_text operators text v
meets_criterion w v = is_match is_eq (sought_for w) v
