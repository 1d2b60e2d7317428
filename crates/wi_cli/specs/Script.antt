-- The commands of a script.
use Rattle.std.specs.Prelude.{◌≡◌, ◌<◌, ◌≤◌, ◌⊎◌, ◌==◌, ◌∷◌, ◌++◌, if◌then◌else◌}
use Rattle.wi_cli.specs.Words.{ℕ, Bool, true, false, List, [], length, Option, Some, None, list_all, option_to_list, byte, IsUtf8, Cell, Command, Csv, Unknown, Unreadable, form, data_of, without_lf, without_cr, max_line, is_space, Bytes}
use Rattle.wi_cli.specs.Spelled.{IsWritten}

abbrev pub is_passed_over : Bytes → Bool
is_passed_over [] = true
is_passed_over (b ∷ bs) = if b == byte "#" then true else list_all is_space (b ∷ bs)

module _ (line : Bytes) where
  abbrev pub line_text : Bytes
  line_text = without_cr (without_lf line)

  abbrev pub IsWithin : Type 0
  IsWithin = length (without_lf line) ≤ max_line

  abbrev pub IsGood : Type 0
  IsGood = IsWithin × IsUtf8 line_text

  abbrev pub Asks : ℕ → Type 0
  Asks n = IsWithin × ((force : Bool) × (at : Option Cell) × IsWritten line_text (form (Csv force at n [])))

  abbrev pub IsCommand : List Bytes → Option Command → Type 0
  IsCommand taken None = IsGood × (is_passed_over line_text ≡ true)
  IsCommand taken (Some Unreadable) = IsGood → ⊥
  IsCommand taken (Some Unknown) =
      IsGood × (is_passed_over line_text ≡ false) × ((c : Command) → IsWritten line_text (form c) → ⊥)
  IsCommand taken (Some c) = IsGood × IsWritten line_text (form c) × (data_of c ≡ taken)

-- Data lines are taken whatever is answered. A `csv` that lacks some is a command only where the script has ended.
pub data AreCommands (ended : Bool) : List Bytes → List Command → Type 0 where
  none : AreCommands ended [] []
  a_line : (line : Bytes) (taken lines : List Bytes) (o : Option Command) (cs : List Command)
      → Asks line (length taken) ⊎ ((taken ≡ []) × ((n : ℕ) → Asks line n → ⊥))
      → IsCommand line taken o → AreCommands ended lines cs
      → AreCommands ended (line ∷ taken ++ lines) (option_to_list o ++ cs)
  cut_short : (line : Bytes) (taken : List Bytes) (n : ℕ) (o : Option Command) → Asks line n → length taken < n
      → IsCommand line taken o → AreCommands ended (line ∷ taken) (if ended then option_to_list o else [])
