-- How values compare (OpenFormula, "Infix Operator Ordered Comparison").
use Rattle.std.specs.Prelude.{ℕ, Bool, false, []}
use Rattle.std.specs.declared.cmp.Ordering.{Ordering}
use Rattle.std.specs.Ordering.{nat_cmp, bool_cmp}
use Rattle.std.specs.Cmp.Lexicographic.{slice_cmp}
use Rattle.wi_fraction.specs.Order.{cross_cmp}
use Rattle.wi_values.specs.declared.value.Value.{Value}
use Rattle.wi_values.specs.declared.value.Value.TheVariants.{Empty, Number, Text, Logical}
use Rattle.wi_standard_functions.specs.Convert.{zero_number}
use Rattle.wi_standard_functions.specs.FirstError.{no_error}
use Rattle.wi_standard_functions.specs.Steps.{◌>>=◌}

-- what Empty counts as beside a value
abbrev pub empty_beside : Value → Value
empty_beside (Text t) = Text []
empty_beside (Logical b) = Logical false
empty_beside v = Number zero_number

-- the second value, as it counts beside the first
abbrev pub beside : Value → Value → Value
beside v Empty = empty_beside v
beside v w = w

-- Numbers come before Texts, and Texts before Logicals
abbrev pub rank : Value → ℕ
rank (Text t) = 1
rank (Logical b) = 2
rank v = 0

abbrev pub value_order : Value → Value → Ordering
value_order (Number x) (Number y) = cross_cmp x y
value_order (Text s) (Text t) = slice_cmp nat_cmp s t
value_order (Logical a) (Logical b) = bool_cmp a b
value_order v w = nat_cmp (rank v) (rank w)

abbrev pub compared : (Ordering → Bool) → Value → Value → Value
compared test v w = do x ← no_error v; y ← no_error w; Logical (test (value_order (beside y x) (beside x y)))
