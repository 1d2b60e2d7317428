-- Contents in double quotes (OpenFormula, "Constant Strings"; RFC 4180, section 2).
use Rattle.std.specs.Prelude.{ℕ, ◌==◌, if◌then◌else◌, List, [], ◌∷◌, ◌++◌, codes}
use Rattle.std.specs.List.{flat_map}
use Rattle.std.specs.Str.{byte}
pub use Rattle.wi_fraction.specs.Text.{Bytes}

-- between the quotes a quote is doubled
abbrev pub doubled : ℕ → Bytes
doubled b = if b == byte "\"" then codes "\"\"" else b ∷ []

abbrev pub quoted : Bytes → Bytes
quoted content = codes "\"" ++ flat_map doubled content ++ codes "\""
