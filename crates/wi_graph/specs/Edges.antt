-- What formulas read, and what edits make of that.
use Rattle.std.specs.Prelude.{◌≡◌, ◌==◌, ℕ, not, List, [], ◌∷◌, filter, Option, Some, None}
use Rattle.std.specs.Ordering.{nat_cmp}
use Rattle.std.specs.Map.{lookup}
use Rattle.std.specs.BTreeMap.{is_at, insert_entry}
use Rattle.wi_values.specs.Address.{Area}
use Rattle.wi_parser.specs.declared.content.Content.{Content}
use Rattle.wi_parser.specs.declared.content.Content.TheVariants.{Constant, Formula}
use Rattle.wi_parser.specs.Sheet.{Sheet, constant, content_of, with_content}
use Rattle.wi_parser.specs.Reads.{rectangles_of}

-- the cells with a formula, in row-major order, each with the rectangles that its formula reads
abbrev pub Edges : Type 0
Edges = List (ℕ × List Area)

-- the rectangles that a formula reads
abbrev pub areas_in : Option Content → Option (List Area)
areas_in None = None
areas_in (Some (Constant v)) = None
areas_in (Some (Formula t)) = Some (rectangles_of t)

-- the rectangles that the formula of a cell reads, by the edges
abbrev pub areas_at : Edges → ℕ → Option (List Area)
areas_at es c = lookup (is_at (nat_cmp c)) es

-- they are those of the sheet's formulas
abbrev pub AreEdgesOf : Edges → Sheet → Type 0
AreEdgesOf es s = (c : ℕ) → areas_at es c ≡ areas_in (content_of s c)

-- the edges with those of a cell's formula, or with none of it
abbrev pub with_areas : Edges → ℕ → Option (List Area) → Edges
with_areas es c None = filter (λ e. not (e.0 == c)) es
with_areas es c (Some rs) = insert_entry nat_cmp es c rs

-- the edges after contents were put in or taken away, one after another
abbrev pub edges_after : Edges → List (ℕ × Option Content) → Edges
edges_after es [] = es
edges_after es (x ∷ xs) = edges_after (with_areas es x.0 (areas_in x.1)) xs

-- what an edit puts into a cell: the constant Empty is no content
abbrev pub brought : Option Content → Option Content
brought None = None
brought (Some (Constant v)) = constant v
brought (Some (Formula t)) = Some (Formula t)

-- the sheet after the same edits
abbrev pub sheet_after : Sheet → List (ℕ × Option Content) → Sheet
sheet_after s [] = s
sheet_after s (x ∷ xs) = sheet_after (with_content s x.0 (brought x.1)) xs

-- the edges, and those of an edit that is neither taken nor taken back yet
pub record Staging : Type 0 where
  pub now : Edges
  pub staged : Option Edges

abbrev pub staging : Edges → Option Edges → Staging
staging es o = record { now = es; staged = o }
