-- What is known while one formula is valued, what it lacks, and what it asks for.
use Rattle.std.specs.Prelude.{◌≡◌, ℕ, ◌+◌, Bool, ◌&&◌, true, List, map, filter, length, Option, Some, None}
use Rattle.std.specs.Option.{is_none}
use Rattle.wi_values.specs.Address.{Area}
use Rattle.wi_values.specs.declared.value.Value.{Value}
use Rattle.wi_values.specs.declared.value.Value.TheVariants.{Empty}
use Rattle.wi_values.specs.declared.replacement.Replacement.{Replacement}
use Rattle.wi_parser.specs.Tree.{Tree}
use Rattle.wi_parser.specs.View.{pair_of}
use Rattle.wi_parser.specs.declared.content.Content.{Content}
use Rattle.wi_parser.specs.declared.content.Content.TheVariants.{Constant, Formula}
use Rattle.wi_parser.specs.Sheet.{Sheet, content_of, put_all, has_formula}
use Rattle.wi_arguments.specs.Assignment.{addresses}
use Rattle.wi_functions.specs.Wants.{TreeAsks}
use Rattle.wi_functions.specs.declared.evaluation.Want.{Want}
use Rattle.wi_functions.specs.declared.evaluation.Want.TheVariants.{Cell, WhatIf}
use Rattle.wi_sheet.specs.Demand.{formulas_read_here, what_ifs_of}
use Rattle.wi_engine.specs.Inner.Findings.{found_value, what_if_found}
use Rattle.wi_sheet.specs.Inner.ReadCells.{cells_after}
use Rattle.wi_engine.specs.declared.findings.Findings.{Findings}

-- what is known of a cell with this content, of which this was found
abbrev pub known_in : Option Content → Option Value → Option Value
known_in None found = Some Empty
known_in (Some (Constant v)) found = Some v
known_in (Some (Formula t)) found = found

-- what is known of a cell under replacements
abbrev pub cell_known : Sheet → List Replacement → Findings → ℕ → Option Value
cell_known s w f c = known_in (content_of (put_all s w) c) (found_value f c)

-- the formula that stands in a cell under replacements asks for this
pub record AsksAt (s : Sheet) (w : List Replacement) (c : ℕ) (want : Want) : Type 0 where
  pub tree : Tree
  pub is : content_of (put_all s w) c ≡ Some (Formula tree)
  pub asks : TreeAsks tree want

-- a value that was not found: of a cell that has a formula under replacements, or of a what-if
abbrev pub IsLacking : Sheet → List Replacement → Findings → Want → Type 0
IsLacking s w f (Cell a) = (has_formula (content_of (put_all s w) a) ≡ true) × (found_value f a ≡ None)
IsLacking s w f (WhatIf c pairs) = what_if_found f c (map addresses (map pair_of pairs.items)) ≡ None

-- a cell has a formula under replacements, and its value was not found: as a test
abbrev pub lacks_cell : Sheet → List Replacement → Findings → ℕ → Bool
lacks_cell s w f a = has_formula (content_of (put_all s w) a) && is_none (found_value f a)

-- how many of the values on which a tree's value rests were not found: of cells with a formula that it reads as the
-- sheet stands, and of what-ifs
abbrev pub lacking : Sheet → Tree → Findings → ℕ
lacking s t f =
    length (filter (λ c. is_none (found_value f c)) (formulas_read_here s t))
    + length (filter (λ x. is_none (what_if_found f x.0 x.1)) (what_ifs_of t))

-- the cells of a rectangle after this one whose values are lacking
abbrev pub lacking_after : Sheet → List Replacement → Findings → Area → ℕ → List ℕ
lacking_after s w f r a = filter (lacks_cell s w f) (cells_after s r (Some a))
