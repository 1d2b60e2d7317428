-- The value of a cell, from nothing but the contents.
use Rattle.std.specs.Prelude.{ℕ, zero, suc, if◌then◌else◌, List, map, length, Option, Some, None}
use Rattle.wi_values.specs.declared.value.Value.{Value}
use Rattle.wi_values.specs.declared.value.Value.TheVariants.{Empty, Fault}
use Rattle.wi_values.specs.declared.value.ErrorKind.TheVariants.{Circular}
use Rattle.wi_parser.specs.Tree.{Tree}
use Rattle.wi_parser.specs.declared.content.Content.{Content}
use Rattle.wi_parser.specs.declared.content.Content.TheVariants.{Constant, Formula}
use Rattle.wi_parser.specs.Sheet.{Sheet, content_of, put_all, cells_with_formula}
use Rattle.wi_functions.specs.Meaning.{meaning, zero_for_empty}
use Rattle.wi_graph.specs.Circular.{circular}

-- what a content gives, where a formula gives this
abbrev pub value_of : Option Content → (Tree → Value) → Value
value_of None of_formula = Empty
value_of (Some (Constant v)) of_formula = v
value_of (Some (Formula t)) of_formula = of_formula t

-- A what-if's value, where `value` gives that of each cell of a sheet. The replacement cells are valued in the sheet as
-- it stands, and of two pairs for one input the second stands.
abbrev pub what_if_in : (Sheet → ℕ → Value) → Sheet → ℕ → List (ℕ × ℕ) → Value
what_if_in value s f pairs = value (put_all s (map (λ p. record { at = p.0; value = value s p.1 }) pairs)) f

-- a cell's value, by at most k formulas one below the other
unfoldable pub value_within : ℕ → Sheet → ℕ → Value
value_within zero s c =
    if circular s c then Fault Circular else value_of (content_of s c) (λ t. Fault Circular)
value_within (suc k) s c =
    if circular s c then Fault Circular else
    value_of (content_of s c) (λ t. zero_for_empty (meaning t (value_within k s) (what_if_in (value_within k) s)))

-- a cell's value: as many formulas as the sheet has can stand one below the other
unfoldable pub cell_value : Sheet → ℕ → Value
cell_value s c = value_within (length (cells_with_formula s)) s c

-- a what-if's value, which is asked for only where nothing that it reads is circular: it would let a replacement cut a
-- cycle
abbrev pub what_if_value : Sheet → ℕ → List (ℕ × ℕ) → Value
what_if_value = what_if_in cell_value

-- a formula's value
abbrev pub formula_value : Sheet → Tree → Value
formula_value s t = zero_for_empty (meaning t (cell_value s) (what_if_in cell_value s))
