-- Which fraction a text spells, as facts about its bytes.
use Rattle.std.specs.Prelude.{ℕ, ◌^◌, ◌<◌, ◌≤◌, ℤ, Bool, true, false, [], ◌∷◌, ◌++◌, length, codes}
use Rattle.std.specs.Str.{byte}
use Rattle.std.specs.Str.Parse.{AllDigits, IsNumeral, digits_value}
use Rattle.wi_fraction.specs.Number.{max_size, with_minus}
use Rattle.wi_fraction.specs.Text.{Bytes}

-- digits, and perhaps a point and digits after it
pub data WritesDigits : Bytes → Bytes → Bytes → Type 0 where
  plain : (ds : Bytes) → IsNumeral 10 ds → WritesDigits ds ds []
  point : (ds es : Bytes) → AllDigits 10 ds → IsNumeral 10 es → WritesDigits (ds ++ byte "." ∷ es) ds es

-- without a sign; some digits stand before a point
pub data SpellsSize : Bytes → ℕ → ℕ → Type 0 where
  pointed : (text ds es : Bytes) → WritesDigits text ds es → IsNumeral 10 ds → SpellsSize text (digits_value 10 (ds ++ es)) (10 ^ length es)
  slash : (ds es : Bytes) → IsNumeral 10 ds → IsNumeral 10 es → 0 < digits_value 10 es → digits_value 10 ds ≤ max_size → digits_value 10 es ≤ max_size
      → SpellsSize (ds ++ byte "/" ∷ es) (digits_value 10 ds) (digits_value 10 es)

-- a sign or none, and whether it is a minus
pub data IsSign : Bytes → Bool → Type 0 where
  no_sign : IsSign [] false
  plus : IsSign (codes "+") false
  minus : IsSign (codes "-") true

pub data SpellsFraction : Bytes → ℤ → ℕ → Type 0 where
  spells : (sign text : Bytes) (s : Bool) (n d : ℕ) → IsSign sign s → SpellsSize text n d → SpellsFraction (sign ++ text) (with_minus s n) d

-- The text spells a fraction.
abbrev pub IsFractionText : Bytes → Type 0
IsFractionText text = (n : ℤ) × (d : ℕ) × SpellsFraction text n d
