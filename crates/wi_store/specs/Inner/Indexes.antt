-- Indexes of rows and columns.
use Rattle.std.specs.Prelude.{◌≡◌, ℕ, ◌∷◌, All, Option, Some, None, IfSome}
use Rattle.std.specs.HashMap.{HashMap, get}
use Rattle.wi_fraction.specs.Number.{Number}
use Rattle.wi_fraction.specs.Order.{same_parts}
use Rattle.wi_values.specs.declared.value.Value.{Value}
use Rattle.wi_parser.specs.Sheet.{Sheet}
use Rattle.wi_parser.specs.declared.content.Content.TheVariants.{Constant}
use Rattle.wi_store.specs.Store.{IsFirstNumber, contents_in, first_number}
use Rattle.wi_store.specs.declared.indexes.Indexes.{Indexes}
use Rattle.wi_store.specs.declared.indexes.LineIndex.{LineIndex}

-- the first of two, where there is one
abbrev pub first_of : Option ℕ → Option ℕ → Option ℕ
first_of None next = next
first_of (Some c) next = Some c

-- A cell with this value is taken in behind those of the old: what comes then is found in the new as this and what
-- comes then in the old.
abbrev pub TakesIn : {S : Type 0} → ℕ → Value → HashMap Number ℕ S → HashMap Number ℕ S → Type 0
TakesIn c v old new = (s : Sheet) (x : Number) → first_of (get same_parts new x) (first_number x s) ≡ first_of (get same_parts old x) (first_number x ((c, Constant v) ∷ s))

-- it tells the first cell with each number among these contents
abbrev pub IsIndexOf : {S : Type 0} → Sheet → HashMap Number ℕ S → Type 0
IsIndexOf s cells = (x : Number) → IsFirstNumber s x (get same_parts cells x)

-- where it has one for its row or column, that is so of the contents there
abbrev pub IsLineIndexOf : Sheet → LineIndex → Type 0
IsLineIndexOf s i = IfSome i.cells (IsIndexOf (contents_in i.line s))

-- each is one of the sheet
abbrev pub AreIndexesOf : Sheet → Indexes → Type 0
AreIndexesOf s is = All (IsLineIndexOf s) is.made.items
