-- The laws of locality, as statements: what a cell shows rests on the cells that it reaches alone.
use Rattle.std.specs.Prelude.{◌≡◌, ℕ, Bool, true, false, List, filter, Some}
use Rattle.wi_values.specs.declared.replacement.Replacement.{Replacement}
use Rattle.wi_values.specs.Replacements.{IsInOrder, last_for}
use Rattle.wi_parser.specs.Tree.{Tree}
use Rattle.wi_parser.specs.declared.content.Content.TheVariants.{Formula}
use Rattle.wi_parser.specs.Sheet.{Sheet, content_of, put_all}
use Rattle.wi_graph.specs.Circular.{circular}
use Rattle.wi_graph.specs.Reach.{Reaches, AgreeFrom, IsInCone, SameOff, reaches, in_cone}
use Rattle.wi_sheet.specs.CellValue.{cell_value, what_if_value}
use Rattle.wi_sheet.specs.Shown.{shown}
use Rattle.wi_sheet.specs.Unmoved.{IsUnmoved}
use Rattle.wi_sheet.specs.Demand.{reaching, with_what_if, precedent_cases}

-- ---- values

-- two sheets that agree on all that c reaches in one of them give it one circular state and one value
abbrev pub RestsOnReach : Type 0
RestsOnReach = (s t : Sheet) (c : ℕ) → AgreeFrom s t c → (circular s c ≡ circular t c) × (cell_value s c ≡ cell_value t c)

-- of replacements those alone count that are put in cells that c reaches in the sheet as it stands
abbrev pub OthersDoNotCount : Type 0
OthersDoNotCount = (s : Sheet) (p : List Replacement) (c : ℕ) (keep : ℕ → Bool) → ((d : ℕ) → Reaches s c d → keep d ≡ true) →
    cell_value (put_all s (filter (λ r. keep r.at) p)) c ≡ cell_value (put_all s p) c

-- two lists of replacements that say the same of each cell that c reaches give it one value
abbrev pub SameForReached : Type 0
SameForReached = (s : Sheet) (p q : List Replacement) (c : ℕ) → ((d : ℕ) → Reaches s c d → last_for p d ≡ last_for q d) → cell_value (put_all s p) c ≡ cell_value (put_all s q) c

-- so a cell has its value under those of the replacements alone that stand for cells that it reaches
abbrev pub ReachingSuffices : Type 0
ReachingSuffices = (s : Sheet) (w : List Replacement) (c : ℕ) → cell_value (put_all s (reaching s c w)) c ≡ cell_value (put_all s w) c

-- A what-if under replacements is its formula cell's value under one list, in which its own override those around it.
-- These stand in the order of their addresses, one for each: in another list only the first for an address would go.
abbrev pub WhatIfIsOneList : Type 0
WhatIfIsOneList = (s : Sheet) (w : List Replacement) (f : ℕ) (pairs : List (ℕ × ℕ)) → IsInOrder w →
    cell_value (put_all s (with_what_if s w pairs)) f ≡ what_if_value (put_all s w) f pairs

-- what is made of replacements in order is in order
abbrev pub OrderStays : Type 0
OrderStays = (s : Sheet) (w : List Replacement) → IsInOrder w →
    ((c : ℕ) → IsInOrder (reaching s c w)) × ((pairs : List (ℕ × ℕ)) → IsInOrder (with_what_if s w pairs))

-- under the replacements of itself and its precedents at any remove alone, a cell has the same formula, and what that
-- rests on is the same
abbrev pub RestsStay : Type 0
RestsStay = (s : Sheet) (w : List Replacement) (c : ℕ) (t : Tree) → IsInOrder w → content_of (put_all s w) c ≡ Some (Formula t) →
    (content_of (put_all s (reaching s c w)) c ≡ Some (Formula t)) × (precedent_cases s (reaching s c w) t ≡ precedent_cases s w t)

-- ---- edits

-- the cone of the edited cells is the same before and after
abbrev pub ConeStays : Type 0
ConeStays = (s t : Sheet) (edited : List ℕ) (c : ℕ) → SameOff s t edited →
    (IsInCone s edited c → IsInCone t edited c) × (IsInCone t edited c → IsInCone s edited c)

-- a cell outside it keeps its content, its circular state, and what it shows under any replacements
abbrev pub OutsideStays : Type 0
OutsideStays = (s t : Sheet) (edited : List ℕ) (c : ℕ) → SameOff s t edited → (IsInCone s edited c → ⊥) →
    (content_of s c ≡ content_of t c) × (circular s c ≡ circular t c) × ((p : List Replacement) → shown s p c ≡ shown t p c)

-- and it reaches what it reached
abbrev pub ReachStays : Type 0
ReachStays = (s t : Sheet) (edited : List ℕ) (c a : ℕ) → SameOff s t edited → (IsInCone s edited c → ⊥) → reaches s c a ≡ reaches t c a

-- it shows one value also under two lists of replacements that leave all cells but the edited ones the same content
abbrev pub OutsideStaysUnderPuts : Type 0
OutsideStaysUnderPuts = (s t : Sheet) (edited : List ℕ) (p q : List Replacement) (c : ℕ) → SameOff s t edited →
    SameOff (put_all s p) (put_all t q) edited → (IsInCone s edited c → ⊥) → shown s p c ≡ shown t q c

-- a cell outside it shows one value whatever stands in the edited cells, and whatever they are replaced by
abbrev pub OutsideIsUnmoved : Type 0
OutsideIsUnmoved = (s : Sheet) (edited : List ℕ) (c : ℕ) → in_cone s edited c ≡ false → IsUnmoved s edited c

-- ---- tests

-- the test for reach says what the walks say
abbrev pub ReachIsDecided : Type 0
ReachIsDecided = (s : Sheet) (c a : ℕ) → (reaches s c a ≡ true → Reaches s c a) × (Reaches s c a → reaches s c a ≡ true)

-- and so does the one for a cone
abbrev pub ConeIsDecided : Type 0
ConeIsDecided = (s : Sheet) (xs : List ℕ) (c : ℕ) → (in_cone s xs c ≡ true → IsInCone s xs c) × (IsInCone s xs c → in_cone s xs c ≡ true)
