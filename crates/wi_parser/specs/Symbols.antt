-- The symbols of a text: what its tokens mean, as facts about its bytes.
use Rattle.std.specs.Prelude.{◌≡◌, ◌≢◌, ℕ, ◌≤◌, true, false, List, [], ◌∷◌, ◌++◌, length, ◌⊎◌, Some, None, codes, Option, option_map, map}
use Rattle.wi_fraction.specs.Written.{WritesNumber}
use Rattle.wi_lexer.specs.Cell.{WrittenCell, IsCell}
use Rattle.wi_lexer.specs.Name.{IsName}
use Rattle.wi_lexer.specs.Rectangle.{rectangle_text}
use Rattle.wi_lexer.specs.Reference.{reference_text}
use Rattle.wi_lexer.specs.Runs.{is_blank}
use Rattle.wi_parser.specs.declared.expr.Reference.{Reference}
use Rattle.wi_parser.specs.declared.fault.ParseFault.TheVariants.{OutOfSheet, NumberRange, Syntax}
use Rattle.wi_parser.specs.Printing.{symbol_text}
use Rattle.wi_parser.specs.Symbol.{Symbol, numeral, reference, corners, bad_token, what_if_name, name}
use Rattle.std.specs.Str.{str_eq_ignore_ascii_case}
use Rattle.wi_values.specs.AddressReading.{address_at}
use Rattle.std.specs.Char.{to_ascii_uppercase}
use Rattle.wi_fraction.specs.Text.{Bytes}

-- if the sheet has the cell
abbrev pub reference_to : WrittenCell → Option Reference
reference_to c =
    option_map (λ a. record { at = a; column_is_absolute = c.column_is_absolute; row_is_absolute = c.row_is_absolute }) (address_at c.letters c.digits)

module _ (token : Bytes) where
  abbrev pub Means : Symbol → Type 0
  Means (numeral x) = WritesNumber token (Some x)
  Means (reference r) = (c : WrittenCell) × IsCell c × (token ≡ reference_text c) × (reference_to c ≡ Some r)
  Means (corners p) =
      (c : WrittenCell) × (d : WrittenCell) × IsCell c × IsCell d × (token ≡ rectangle_text c d)
      × (reference_to c ≡ Some p.one) × (reference_to d ≡ Some p.other)
  Means what_if_name = IsName token × (str_eq_ignore_ascii_case token (codes "MULTIPLE.OPERATIONS") ≡ true)
  Means (name f) =
      IsName token × (str_eq_ignore_ascii_case token (codes "MULTIPLE.OPERATIONS") ≡ false) × (map to_ascii_uppercase token ≡ f)
  Means (bad_token NumberRange) = WritesNumber token None
  Means (bad_token OutOfSheet) =
      ((c : WrittenCell) × IsCell c × (token ≡ reference_text c) × (reference_to c ≡ None))
      ⊎ ((c : WrittenCell) × (d : WrittenCell) × IsCell c × IsCell d × (token ≡ rectangle_text c d)
      × ((reference_to c ≡ None) ⊎ (reference_to d ≡ None)))
  Means (bad_token e) = ⊥
  Means s = token ≡ symbol_text s

abbrev pub NoneLonger : Bytes → Bytes → Type 0
NoneLonger token bytes = (other rest : Bytes) (s : Symbol) → Means other s → other ++ rest ≡ bytes → length other ≤ length token

-- White space is passed over; then the longest token comes first; where none begins, a bad one is the last.
pub data AreSymbols : Bytes → List Symbol → Type 0 where
  at_the_end : AreSymbols [] []
  white_space : (b : ℕ) (text : Bytes) (ts : List Symbol) → is_blank b ≡ true → AreSymbols text ts → AreSymbols (b ∷ text) ts
  a_token : (token rest : Bytes) (s : Symbol) (ts : List Symbol) → Means token s → NoneLonger token (token ++ rest) → AreSymbols rest ts
      → AreSymbols (token ++ rest) (s ∷ ts)
  no_token : (b : ℕ) (text : Bytes) → is_blank b ≡ false → ((token rest : Bytes) (s : Symbol) → Means token s → token ++ rest ≢ b ∷ text)
      → AreSymbols (b ∷ text) (bad_token Syntax ∷ [])
