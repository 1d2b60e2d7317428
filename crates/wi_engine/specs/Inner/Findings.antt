-- The values that were found for one formula.
use Rattle.std.specs.Prelude.{◌≡◌, ◌==◌, ℕ, List, [], ◌∷◌, ◌++◌, Option, Some, None, if◌then◌else◌}
use Rattle.std.specs.Global.{Box}
use Rattle.wi_values.specs.declared.value.Value.{Value}
use Rattle.wi_arguments.specs.Assignment.{AgreesWith}
use Rattle.wi_engine.specs.Inner.Lists.{first_for, listed_value}
use Rattle.wi_engine.specs.declared.findings.Findings.{Findings}
use Rattle.wi_engine.specs.declared.lists.Lists.{Lists}
use Rattle.wi_engine.specs.declared.lists.FoundWhatIf.{FoundWhatIf}

-- the value of a cell in lists, if there are any
abbrev pub value_in : Option (Box Lists) → ℕ → Option Value
value_in None c = None
value_in (Some lists) c = listed_value lists.value c

-- the what-ifs in lists, if there are any
abbrev pub what_ifs_in : Option (Box Lists) → List FoundWhatIf
what_ifs_in None = []
what_ifs_in (Some lists) = lists.value.what_ifs.items

-- the value found of a cell
abbrev pub found_value : Findings → ℕ → Option Value
found_value f = value_in f.lists

-- the what-ifs of which values were found
abbrev pub found_what_ifs : Findings → List FoundWhatIf
found_what_ifs f = what_ifs_in f.lists

-- the value found of a what-if
abbrev pub what_if_found : Findings → ℕ → List (ℕ × ℕ) → Option Value
what_if_found f = first_for (found_what_ifs f)

-- each value found of a cell, and each of a what-if, is so
abbrev pub AreAllRight : (ℕ → Value) → (ℕ → List (ℕ × ℕ) → Value) → Findings → Type 0
AreAllRight cells what_ifs f = AgreesWith (found_value f) (what_if_found f) (record { cells = cells; what_ifs = what_ifs })

-- the second is the first with a cell's value
pub record IsWithCell (f g : Findings) (a : ℕ) (v : Value) : Type 0 where
  pub cells : (c : ℕ) → found_value g c ≡ (if a == c then Some v else found_value f c)
  pub what_ifs : found_what_ifs g ≡ found_what_ifs f

-- the second is the first with a what-if's value behind the others
pub record IsWithWhatIf (f g : Findings) (x : FoundWhatIf) : Type 0 where
  pub cells : (c : ℕ) → found_value g c ≡ found_value f c
  pub what_ifs : found_what_ifs g ≡ found_what_ifs f ++ x ∷ []
