-- A sheet within limits, and what edits do to it.
use Rattle.std.specs.Prelude.{◌≡◌, ℕ, ◌+◌, List, [], ◌∷◌, filter, length, map, Option, Some, None, Result, Ok, Err, nat_lt, nat_le, if◌then◌else◌, Bool, false, ◌&&◌}
use Rattle.wi_fraction.specs.Number.{Number as Numbers}
use Rattle.wi_fraction.specs.Order.{same_parts}
use Rattle.wi_parser.specs.Sheet.{Sheet, constant, has_formula, with_content}
use Rattle.wi_parser.specs.declared.content.Content.{Content}
use Rattle.wi_parser.specs.declared.content.Content.TheVariants.{Constant, Formula}
use Rattle.wi_store.specs.declared.limits.Limits.{Limits}
use Rattle.wi_store.specs.declared.fault.StoreFault.{StoreFault}
use Rattle.wi_store.specs.declared.fault.StoreFault.TheVariants.{Full, EditLimit, Memory}
use Rattle.wi_values.specs.declared.value.Value.TheVariants.{Number}
use Rattle.wi_values.specs.Address.{Area, is_within}

-- with the count of accepted edits
pub record Stored : Type 0 where
  pub sheet : Sheet
  pub edits : ℕ
  pub limits : Limits

abbrev pub edited : Sheet → List (ℕ × Option Content) → Sheet
edited s [] = s
edited s (e ∷ es) = edited (with_content s e.0 e.1) es

-- what a cell gets: the constant Empty is no content
abbrev pub without_empty : Option Content → Option Content
without_empty None = None
without_empty (Some (Constant v)) = constant v
without_empty (Some (Formula t)) = Some (Formula t)

abbrev pub change_without_empty : ℕ × Option Content → ℕ × Option Content
change_without_empty e = (e.0, without_empty e.1)

-- one edit of contents of which none is the constant Empty, or the first refusal that holds
unfoldable pub accepted : Stored → List (ℕ × Option Content) → Result Stored StoreFault
accepted s es =
    if nat_lt s.limits.cells (length (edited s.sheet es)) then Err Full
    else (if nat_le s.limits.edits s.edits then Err EditLimit
    else Ok (record s { sheet = edited s.sheet es; edits = s.edits + 1 }))

-- one edit, which names cells and gives each a content or none, or the first refusal that holds
abbrev pub applied : Stored → List (ℕ × Option Content) → Result Stored StoreFault
applied s es = accepted s (map change_without_empty es)

-- the call did the edit, or refused it and left all as it was
abbrev pub Applies : Result Stored StoreFault → Result (Unit {0}) StoreFault → Stored → Stored → Type 0
Applies answer (Ok _) old new = answer ≡ Ok new
Applies answer (Err Full) old new = (answer ≡ Err Full) × (new ≡ old)
Applies answer (Err EditLimit) old new = (answer ≡ Err EditLimit) × (new ≡ old)
Applies answer (Err Memory) old new = new ≡ old

-- the cell lies in the rectangle, at this cell or after it; none does where there is no such cell
abbrev pub is_ahead : Area → Option ℕ → ℕ → Bool
is_ahead r None a = false
is_ahead r (Some from) a = nat_le from a && is_within r a

-- the contents of the rectangle
abbrev pub contents_in : Area → Sheet → Sheet
contents_in r s = filter (λ e. is_ahead r (Some r.first) e.0) s

-- the content is this number
abbrev pub is_number : Numbers → Content → Bool
is_number x (Constant (Number y)) = same_parts y x
is_number x content = false

-- the first cell with this number
abbrev pub first_number : Numbers → Sheet → Option ℕ
first_number x [] = None
first_number x (e ∷ es) = if is_number x e.1 then Some e.0 else first_number x es

-- no content is a formula
abbrev pub AreConstants : Sheet → Type 0
AreConstants [] = Unit {0}
AreConstants (e ∷ es) = (has_formula (Some e.1) ≡ false) × AreConstants es

-- all contents are constants, and this is the first cell with the number
pub record IsFirstNumber (s : Sheet) (x : Numbers) (found : Option ℕ) : Type 0 where
  pub constants : AreConstants s
  pub first : found ≡ first_number x s
