-- Parts of a formula: what one means, what it asks for, and how its evaluation ends.
use Rattle.std.specs.Prelude.{◌≡◌, ℕ, List, Option, Result, MatchResult}
use Rattle.wi_values.specs.declared.value.Value.{Value}
use Rattle.wi_parser.specs.Tree.{Tree, Trees}
use Rattle.wi_parser.specs.Leaves.{Leaf, leaves, all_leaves}
use Rattle.wi_standard_functions.specs.Arguments.{Argument}
use Rattle.wi_arguments.specs.Assignment.{Assignment}
use Rattle.wi_value_functions.specs.NoValues.{IfMissing}
use Rattle.wi_value_functions.specs.declared.no_value.Stop.{Stop}
use Rattle.wi_value_functions.specs.declared.no_value.Stop.TheVariants.{Missing, Memory}
use Rattle.wi_functions.specs.Meaning.{meaning, arguments}
use Rattle.wi_functions.specs.Evaluation.{ByAll, IsWanted}
use Rattle.wi_functions.specs.declared.evaluation.Want.{Want}
use Rattle.wi_functions.specs.declared.evaluation.Want.TheVariants.{Cell}

-- what a part means by an assignment, and its leaves, which alone may ask for a value
pub record Part (M : Type 0) : Type 0 where
  pub means : Assignment → M
  pub asking : List Leaf

-- an expression, which means a value
abbrev pub of_tree : Tree → Part Value
of_tree t = record { means = λ a. meaning t a.cells a.what_ifs; asking = leaves t }

-- the parameters of a call, which mean arguments
abbrev pub of_parameters : Trees → Part (List Argument)
of_parameters ts = record { means = λ a. arguments ts a.cells a.what_ifs; asking = all_leaves ts }

-- what is made of what a part means
abbrev pub mapped : {M N : Type 0} → (M → N) → Part M → Part N
mapped f p = record { means = λ a. f (p.means a); asking = p.asking }

-- a function that stops at a cell whose value isn't known wants that cell
abbrev pub stopped : Stop ℕ → Stop Want
stopped (Missing c) = Missing (Cell c)
stopped Memory = Memory

module _ {K : Type 0} (known_cell : K → ℕ → Option Value) (known_what_if : K → ℕ → List (ℕ × ℕ) → Option Value) (known : K) where
  -- An evaluation gives what the part means by each assignment that agrees with what is known, seen by that assignment;
  -- or else it stops at what the part asks for and isn't known, or because memory ran out.
  abbrev pub EvaluatesAs : {R M : Type 0} → Result R (Stop Want) → (Assignment → R → M) → Part M → Type 0
  EvaluatesAs result seen part = MatchResult result
      (λ r. ByAll known_cell known_what_if known (λ a. seen a r ≡ part.means a))
      (λ s. IfMissing s (IsWanted known_cell known_what_if known part.asking))

  -- an evaluation gives the value that the part means, or stops, as EvaluatesAs says; a value is seen as it is
  abbrev pub Evaluates : Result Value (Stop Want) → Part Value → Type 0
  Evaluates result part = EvaluatesAs result (λ a v. v) part
