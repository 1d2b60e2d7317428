-- What a text that comes from outside a formula is taken for, as facts about its bytes.
use Rattle.std.specs.Prelude.{◌≡◌, ◌≢◌, ℕ, ◌<◌, ◌≤◌, ℤ, length, Bool, Option, Some, None}
use Rattle.wi_fraction.specs.Number.{Number as Fraction, number_of}
use Rattle.wi_fraction.specs.Spelled.{SpellsFraction}
use Rattle.wi_values.specs.declared.value.Value.{Value}
use Rattle.wi_values.specs.declared.value.Value.TheVariants.{Number, Text, Logical}
use Rattle.wi_values.specs.Import.{max_text}
use Rattle.wi_values.specs.Value.{logical_name}
use Rattle.wi_fraction.specs.Text.{Bytes}

abbrev pub SpellsNumber : Bytes → Fraction → Type 0
SpellsNumber text x = (n : ℤ) × (d : ℕ) × SpellsFraction text n d × (number_of n d ≡ Some x)

pub record IsWords (text : Bytes) : Type 0 where
  pub no_number : (x : Fraction) → SpellsNumber text x → ⊥
  pub no_name : (b : Bool) → text ≢ logical_name b

pub data IsImported : Bytes → Option Value → Type 0 where
  a_number : (text : Bytes) (x : Fraction) → SpellsNumber text x → IsImported text (Some (Number x))
  a_truth_value : (b : Bool) → IsImported (logical_name b) (Some (Logical b))
  a_text : (text : Bytes) → IsWords text → length text ≤ max_text → IsImported text (Some (Text text))
  too_long : (text : Bytes) → IsWords text → max_text < length text → IsImported text None
