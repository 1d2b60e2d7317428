-- Which cells are settled where the values of some cases are kept, and which values rest on kept ones.
use Rattle.std.specs.Prelude.{◌≡◌, ◌⊎◌, ℕ, Bool, true, false, List, Some, All, Contains}
use Rattle.wi_values.specs.declared.replacement.Replacement.{Replacement}
use Rattle.wi_parser.specs.Tree.{Tree}
use Rattle.wi_parser.specs.declared.content.Content.TheVariants.{Formula}
use Rattle.wi_parser.specs.Sheet.{Sheet, content_of, put_all, has_formula}
use Rattle.wi_parser.specs.Reads.{reads}
use Rattle.wi_arguments.specs.Assignment.{Assignment}
use Rattle.wi_functions.specs.Meaning.{meaning}
use Rattle.wi_sheet.specs.CellValue.{cell_value, what_if_value}
use Rattle.wi_sheet.specs.Demand.{Case, reaching, with_what_if, what_ifs_of}

-- A cell is settled under replacements where it has no formula under them, or its value is kept under those of them
-- that it reaches.
abbrev pub IsSettled : Sheet → (ℕ → List Replacement → Bool) → List Replacement → ℕ → Type 0
IsSettled s kept w c = (has_formula (content_of (put_all s w) c) ≡ false) ⊎ (kept c (reaching s c w) ≡ true)

-- A what-if is settled where its replacement cells are, and its formula cell is with the inputs replaced.
pub record IsWhatIfSettled (s : Sheet) (kept : ℕ → List Replacement → Bool) (w : List Replacement) (x : ℕ × List (ℕ × ℕ)) : Type 0 where
  pub replacing : All (λ p. IsSettled s kept w p.1) x.1
  pub formula_cell : IsSettled s kept (with_what_if s w x.1) x.0

-- Some values of cells and of what-ifs are the sheet's own, under the replacements, for each settled cell that the tree
-- reads and for each of its settled what-ifs; for all others they are any.
pub record AgreesWhereSettled (s : Sheet) (kept : ℕ → List Replacement → Bool) (w : List Replacement) (t : Tree) (a : Assignment) : Type 0 where
  pub cells : (c : ℕ) → reads t c ≡ true → IsSettled s kept w c → a.cells c ≡ cell_value (put_all s w) c
  pub what_ifs : (f : ℕ) (pairs : List (ℕ × ℕ)) → Contains (what_ifs_of t) (f, pairs) → IsWhatIfSettled s kept w (f, pairs) → a.what_ifs f pairs ≡ what_if_value (put_all s w) f pairs

-- A case rests on kept values where its formula means by any such values what it means by the sheet's own: what isn't
-- settled makes no difference to it.
abbrev pub RestsOnKept : Sheet → (ℕ → List Replacement → Bool) → Case → Type 0
RestsOnKept s kept k = (t : Tree) (a : Assignment) → content_of (put_all s k.1) k.0 ≡ Some (Formula t) → AgreesWhereSettled s kept k.1 t a →
    meaning t a.cells a.what_ifs ≡ meaning t (cell_value (put_all s k.1)) (what_if_value (put_all s k.1))
