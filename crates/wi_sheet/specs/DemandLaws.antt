-- Laws about what a value demands, as statements.
use Rattle.std.specs.Prelude.{◌≡◌, ℕ, true, false, if◌then◌else◌, List, [], ◌∷◌, Some}
use Rattle.std.specs.List.{flat_map}
use Rattle.wi_values.specs.declared.replacement.Replacement.{Replacement}
use Rattle.wi_values.specs.Replacements.{IsInOrder}
use Rattle.wi_parser.specs.Tree.{Tree}
use Rattle.wi_parser.specs.declared.content.Content.TheVariants.{Formula}
use Rattle.wi_parser.specs.Sheet.{Sheet, content_of, put_all, has_formula}
use Rattle.wi_graph.specs.Circular.{circular}
use Rattle.wi_sheet.specs.Demand.{Case, case_of, of_formula, precedent_cases, demand}

-- a cell that is not circular in the sheet, with a formula under its replacements, demands itself, and then what each
-- of those cases demands on which its formula's value rests
abbrev pub DemandByStep : Type 0
DemandByStep = (s : Sheet) (k : Case) (t : Tree) → circular s k.0 ≡ false → content_of (put_all s k.1) k.0 ≡ Some (Formula t) →
    demand s k ≡ k ∷ flat_map (demand s) (precedent_cases s k.1 t)

-- With the replacements in order, one for each address, what a cell demands is told by them as they are, though each
-- case has only those of its cell and its precedents at any remove: nothing where the cell is circular or has no
-- formula under them, and else its case, what the cells demand that the formula reads, and what the formula cells of
-- its what-ifs demand, with those put in.
abbrev pub DemandUnderReplacements : Type 0
DemandUnderReplacements = (s : Sheet) (w : List Replacement) (c : ℕ) → IsInOrder w →
    demand s (case_of s w c) ≡ (if circular s c then [] else of_formula (content_of (put_all s w) c) [] (λ t. case_of s w c ∷ flat_map (demand s) (precedent_cases s w t)))

-- a circular cell demands nothing
abbrev pub CircularDemandsNothing : Type 0
CircularDemandsNothing = (s : Sheet) (k : Case) → circular s k.0 ≡ true → demand s k ≡ []

-- a cell with no formula under its replacements demands nothing
abbrev pub PlainDemandsNothing : Type 0
PlainDemandsNothing = (s : Sheet) (k : Case) → has_formula (content_of (put_all s k.1) k.0) ≡ false → demand s k ≡ []
