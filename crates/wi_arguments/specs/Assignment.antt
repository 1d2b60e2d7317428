-- What is known, and what it says of all values.
use Rattle.std.specs.Prelude.{◌≡◌, ℕ, List, Option, Some, None, IfSome}
use Rattle.wi_values.specs.declared.value.Value.{Value}
use Rattle.wi_parser.specs.declared.expr.Reference.{Reference}
use Rattle.wi_arguments.specs.declared.lookup.LookedUp.{LookedUp}
use Rattle.wi_arguments.specs.declared.lookup.LookedUp.TheVariants.{Known, Missing}

-- the value, where it is known
abbrev pub value_if_known : LookedUp → Option Value
value_if_known (Known v) = Some v.now
value_if_known Missing = None

-- an input and its replacement cell, by their addresses
abbrev pub addresses : Reference × Reference → ℕ × ℕ
addresses p = (p.0.at, p.1.at)

-- a value for each cell and for each what-if
pub record Assignment : Type 0 where
  pub cells : ℕ → Value
  pub what_ifs : ℕ → List (ℕ × ℕ) → Value

-- what is known is so in this assignment
pub record AgreesWith (known_cell : ℕ → Option Value) (known_what_if : ℕ → List (ℕ × ℕ) → Option Value) (a : Assignment) : Type 0 where
  pub cells : (c : ℕ) → IfSome (known_cell c) (λ v. v ≡ a.cells c)
  pub what_ifs : (f : ℕ) (pairs : List (ℕ × ℕ)) → IfSome (known_what_if f pairs) (λ v. v ≡ a.what_ifs f pairs)
