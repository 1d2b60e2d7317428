-- Formulas of a plan over places: what they mean where the values before them stand in a list.
use Rattle.std.specs.Prelude.{◌≡◌, ◌++◌, ◌∷◌, ℕ, false, List, [], map, Some, None, IfSome, IfNone, is_none, slice_get, length, take}
use Rattle.std.specs.BTreeMap.{get}
use Rattle.std.specs.Ordering.{nat_cmp}
use Rattle.wi_values.specs.Address.{is_one_of}
use Rattle.wi_values.specs.declared.value.Value.{Value}
use Rattle.wi_parser.specs.Tree.{Tree, Trees}
use Rattle.wi_parser.specs.declared.content.Content.TheVariants.{Formula}
use Rattle.wi_parser.specs.declared.expr.Reference.{Reference}
use Rattle.wi_parser.specs.Sheet.{Sheet, content_of, has_formula}
use Rattle.wi_functions.specs.Meaning.{meaning, arguments}
use Rattle.wi_functions.specs.Inner.Calls.{values_of}
use Rattle.wi_functions.specs.Placed.{placed_value, placed_values, value_at_place}
use Rattle.wi_functions.specs.declared.placed.Placed.{Placed}
use Rattle.wi_engine.specs.Inner.Attempt.{known_in}
use Rattle.wi_engine.specs.declared.placing.Numbering.{Numbering}
use Rattle.wi_engine.specs.declared.placing.PlacedCell.{PlacedCell}
use Rattle.wi_engine.specs.declared.placing.PlacedPlan.{PlacedPlan}
use Rattle.wi_engine.specs.declared.plan.Planned.{Planned}

-- ---- what a placed formula means

-- Values in a list are those of the cells at its places, and any other cell without a formula shows what stands there.
pub record Fits (s : Sheet) (cells : List ℕ) (vs : List Value) (value : ℕ → Value) : Type 0 where
  pub there : (c i : ℕ) → slice_get cells i ≡ Some c → value_at_place vs i ≡ value c
  pub others : (c : ℕ) → is_one_of cells c ≡ false → has_formula (content_of s c) ≡ false → known_in (content_of s c) None ≡ Some (value c)

-- over all values that fit, a tree means what its placed form gives, whatever what-ifs give
abbrev pub Means : Sheet → List ℕ → Tree → Placed → Type 0
Means s cells t p = (vs : List Value) (value : ℕ → Value) (what_ifs : ℕ → List (ℕ × ℕ) → Value) → Fits s cells vs value → placed_value p vs ≡ meaning t value what_ifs

-- and parameters have the values of their placed forms
abbrev pub Mean : Sheet → List ℕ → Trees → List Placed → Type 0
Mean s cells ts ps = (vs : List Value) (value : ℕ → Value) (what_ifs : ℕ → List (ℕ × ℕ) → Value) → Fits s cells vs value → placed_values ps vs ≡ values_of (arguments ts value what_ifs)

-- a cell's formula means what this gives
pub record IsPlacedFormula (s : Sheet) (cells : List ℕ) (c : ℕ) (p : Placed) : Type 0 where
  pub tree : Tree
  pub is : content_of s c ≡ Some (Formula tree)
  pub means : Means s cells tree p

-- a cell of a plan is placed, unless its value is given
pub record ArePlacedFor (s : Sheet) (cells : List ℕ) (q : Planned) (c : PlacedCell) : Type 0 where
  pub planned : c.planned ≡ q
  pub given : is_none c.formula ≡ q.is_given
  pub placed : IfSome c.formula (IsPlacedFormula s cells q.at)

abbrev pub cells_placed : List PlacedCell → List ℕ
cells_placed cs = map (λ c. c.planned.at) cs

-- A plan's cells and its root are placed, each over the inputs and the cells before it.
pub record IsPlacedPlan (s : Sheet) (inputs : List ℕ) (root : ℕ) (ps : List Planned) (p : PlacedPlan) : Type 0 where
  pub same : map (λ c. c.planned) p.cells.items ≡ ps
  pub cells : (i : ℕ) (c : PlacedCell) → slice_get p.cells.items i ≡ Some c → ArePlacedFor s (inputs ++ cells_placed (take i p.cells.items)) c.planned c
  pub formula : IsPlacedFormula s (inputs ++ cells_placed p.cells.items) root p.root

-- ---- how it is placed

-- the places of just these cells, in their order
pub record AreNumbered (cells : List ℕ) (ps : Numbering) : Type 0 where
  pub count : ps.count ≡ length cells
  pub there : (c : ℕ) → IfSome (get nat_cmp ps.by_cell c) (λ i. slice_get cells i ≡ Some c)
  pub none : (c : ℕ) → IfNone (get nat_cmp ps.by_cell c) (is_one_of cells c ≡ false)

-- one more has a place
abbrev pub IsNumberedMore : Numbering → Numbering → ℕ → Type 0
IsNumberedMore old new c = (cells : List ℕ) → AreNumbered cells old → AreNumbered (cells ++ c ∷ []) new

-- a tree's placed form by these places, whichever cells have them
abbrev pub IsPlacedAs : Sheet → Numbering → Tree → Placed → Type 0
IsPlacedAs s ps t p = (cells : List ℕ) → AreNumbered cells ps → Means s cells t p

-- and those of parameters
abbrev pub ArePlacedAs : Sheet → Numbering → Trees → List Placed → Type 0
ArePlacedAs s ps ts qs = (cells : List ℕ) → AreNumbered cells ps → Mean s cells ts qs

-- a reference to a cell
abbrev pub plain_reference : ℕ → Reference
plain_reference c = record { at = c; column_is_absolute = false; row_is_absolute = false }
