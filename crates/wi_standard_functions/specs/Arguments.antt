-- The arguments of a call, as its function sees them (OpenFormula, "Functions and Function Parameters").
use Rattle.std.specs.Prelude.{ℕ, List, map, Option, Result, Err, ok_or, slice_get}
use Rattle.std.specs.Option.{option_map_or}
use Rattle.wi_values.specs.Address.{Area, cells_of, height, width}
use Rattle.wi_values.specs.declared.value.ErrorKind.{ErrorKind}
use Rattle.wi_values.specs.declared.value.ErrorKind.TheVariants.{BadValue}
use Rattle.wi_values.specs.declared.value.Value.{Value}
use Rattle.wi_values.specs.declared.value.Value.TheVariants.{Empty}

-- a rectangle, with the values of its cells in row-major order
pub record Region : Type 0 where
  pub height : ℕ
  pub width : ℕ
  pub values : List Value

-- a parameter's value, and the rectangle that it refers to, also in parentheses
pub record Argument : Type 0 where
  pub value : Value
  pub region : Option Region

-- where `cells` gives the value of each cell
abbrev pub region_of : (ℕ → Value) → Area → Region
region_of cells r = record {
  height = height r;
  width = width r;
  values = map cells (cells_of r);
}

abbrev pub region_referred : Argument → Result Region ErrorKind
region_referred a = ok_or a.region BadValue

-- ---- the argument at a place, counted from 0, or else the default

abbrev pub value_or : Value → List Argument → ℕ → Value
value_or default args i = option_map_or (λ (a : Argument). a.value) (slice_get args i) default

abbrev pub value_at : List Argument → ℕ → Value
value_at args i = value_or Empty args i

abbrev pub region_at : List Argument → ℕ → Result Region ErrorKind
region_at args i = option_map_or region_referred (slice_get args i) (Err BadValue)
