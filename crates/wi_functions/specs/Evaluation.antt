-- What an evaluation gives, where something is known of the values of cells and of what-ifs.
use Rattle.std.specs.Prelude.{◌≡◌, ℕ, List, Option}
use Rattle.wi_values.specs.declared.value.Value.{Value}
use Rattle.wi_parser.specs.Tree.{Tree}
use Rattle.wi_parser.specs.Leaves.{Leaf, leaves}
use Rattle.wi_arguments.specs.Assignment.{Assignment, AgreesWith}
use Rattle.wi_functions.specs.Meaning.{meaning, zero_for_empty}
use Rattle.wi_functions.specs.Wants.{AnyLeafAsks, IsUnknown}
use Rattle.wi_functions.specs.declared.evaluation.Want.{Want}
use Rattle.wi_functions.specs.declared.evaluation.Outcome.{Outcome}
use Rattle.wi_functions.specs.declared.evaluation.Outcome.TheVariants.{Done, Needs}

module _ {K : Type 0} (known_cell : K → ℕ → Option Value) (known_what_if : K → ℕ → List (ℕ × ℕ) → Option Value) (known : K) where
  -- so it is by each assignment that agrees with what is known
  abbrev pub ByAll : (Assignment → Type 0) → Type 0
  ByAll P = (a : Assignment) → AgreesWith (known_cell known) (known_what_if known) a → P a

  -- what is wanted isn't known, and one of these leaves asks for it
  pub record IsWanted (ls : List Leaf) (w : Want) : Type 0 where
    pub asked : AnyLeafAsks ls w
    pub unknown : IsUnknown (known_cell known) (known_what_if known) w

  -- the value of a tree that means one and the same by all these assignments: that, with Empty turned to 0
  pub record IsValueOf (t : Tree) (v : Value) : Type 0 where
    pub meant : Value
    pub one_meaning : ByAll (λ a. meant ≡ meaning t a.cells a.what_ifs)
    pub value : v ≡ zero_for_empty meant

  -- how an evaluation of a tree ends: with its value, or at what it wants
  abbrev pub IsOutcomeOf : Tree → Outcome → Type 0
  IsOutcomeOf t (Done v) = IsValueOf t v
  IsOutcomeOf t (Needs w) = IsWanted (leaves t) w
