-- How much is counted where values are found.
use Rattle.std.specs.Prelude.{◌≡◌, ℕ, ◌+◌, ◌≤◌, Bool, true, if◌then◌else◌, List, [], ◌∷◌, Some, All, Contains, length, sum_by}
use Rattle.wi_values.specs.declared.replacement.Replacement.{Replacement}
use Rattle.wi_parser.specs.Tree.{Tree}
use Rattle.wi_parser.specs.declared.content.Content.TheVariants.{Formula}
use Rattle.wi_parser.specs.Sheet.{Sheet, content_of, put_all, has_formula}
use Rattle.wi_functions.specs.Counts.{Counts}
use Rattle.wi_sheet.specs.Demand.{Case, case_of, with_what_if, precedent_cases, wants}

-- a case rests on another: its formula reads that one's cell as the sheet stands, or has a what-if of it, and that one
-- has a formula too
pub record RestsOn (s : Sheet) (k j : Case) : Type 0 where
  pub tree : Tree
  pub is : content_of (put_all s k.1) k.0 ≡ Some (Formula tree)
  pub asks : Contains (precedent_cases s k.1 tree) j
  pub formula : has_formula (content_of (put_all s j.1) j.0) ≡ true

-- a list of cases that has all on which they rest
abbrev pub IsClosed : Sheet → List Case → Type 0
IsClosed s ks = (k j : Case) → Contains ks k → RestsOn s k j → Contains ks j

-- which values a table has: those that were found, or those that are kept
abbrev pub Table : Type 0
Table = ℕ → List Replacement → Bool

-- the weights of the cases that are not in a table
abbrev pub left : (Case → ℕ) → Table → List Case → ℕ
left weight found [] = 0
left weight found (k ∷ ks) = (if found k.0 k.1 then 0 else weight k) + left weight found ks

-- The list has the case of the cell, if the cell has a formula under the replacements.
abbrev pub HasCase : Sheet → List Replacement → ℕ → List Case → Type 0
HasCase s w a ks = has_formula (content_of (put_all s w) a) ≡ true → Contains ks (case_of s w a)

-- The list has the case of each replacement cell that has a formula under the replacements.
abbrev pub HasReplacing : Sheet → List Replacement → List (ℕ × ℕ) → List Case → Type 0
HasReplacing s w pairs ks = All (λ x. HasCase s w x.1 ks) pairs

-- and that of the formula cell with the inputs replaced
abbrev pub HasEntry : Sheet → List Replacement → ℕ → List (ℕ × ℕ) → List Case → Type 0
HasEntry s w f pairs ks = HasReplacing s w pairs ks × HasCase s (with_what_if s w pairs) f ks

-- neither count falls
abbrev pub NeverFall : Counts → Counts → Type 0
NeverFall before after = (before.evaluations ≤ after.evaluations) × (before.restarts ≤ after.restarts)

-- what cases cost: an evaluation each, and the restarts for which their formulas may ask
abbrev pub price : Sheet → List Case → Counts
price s ks = record { evaluations = length ks; restarts = sum_by (wants s) ks }

-- and those of them that are not in a table
abbrev pub cost : Sheet → Table → List Case → Counts
cost s t ks = record { evaluations = left (λ k. 1) t ks; restarts = left (wants s) t ks }

abbrev pub plus : Counts → Counts → Counts
plus a b = record { evaluations = a.evaluations + b.evaluations; restarts = a.restarts + b.restarts }

-- Of some cases no more was spent than all cost that were not in the table, and where it was done, no more than those
-- cost that came into it.
pub record SpentOn (s : Sheet) (old new : Table) (before after : Counts) (done : Bool) (ks : List Case) : Type 0 where
  pub within : NeverFall after (plus before (cost s old ks))
  pub paid : done ≡ true → NeverFall (plus after (cost s new ks)) (plus before (cost s old ks))
