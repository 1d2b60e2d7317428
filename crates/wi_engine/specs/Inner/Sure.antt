-- The cells that each evaluation of a formula asks for that an error doesn't end, and those that are found together.
use Rattle.std.specs.Prelude.{◌≡◌, ◌≤◌, ◌⊎◌, ℕ, true, List}
use Rattle.wi_values.specs.Address.{Area, is_one_of, size_of}
use Rattle.wi_values.specs.declared.value.Value.{Value}
use Rattle.wi_parser.specs.Tree.{Tree, Trees, cell, parenthesized, signed, percent, binary, call, no_trees, more_trees}
use Rattle.wi_parser.specs.Reads.{rectangles_of}
use Rattle.wi_parser.specs.Sheet.{Sheet}
use Rattle.wi_value_functions.specs.Applied.{applied_to_arguments}
use Rattle.wi_value_functions.specs.declared.function.Function.{Function}
use Rattle.wi_value_functions.specs.declared.function.Function.TheVariants.{Lazy, References, Values}
use Rattle.wi_value_functions.specs.declared.function.FoldFunction.{FoldFunction}
use Rattle.wi_value_functions.specs.declared.function.LazyFunction.{LazyFunction}
use Rattle.wi_value_functions.specs.declared.function.ReferenceFunction.TheVariants.{Fold}
use Rattle.wi_value_functions.specs.declared.function.ValueFunction.{ValueFunction}
use Rattle.wi_functions.specs.Meaning.{arguments, meaning}
use Rattle.wi_engine.specs.Inner.Attempt.{lacks_cell}
use Rattle.wi_engine.specs.Inner.Scans.{IsSmallestWith}
use Rattle.wi_engine.specs.declared.frame.Frame.{Frame}

-- a call of this name with these parameters is one of this function
abbrev pub IsCallOf : List ℕ → Trees → Function → Type 0
IsCallOf name ts f = (cells : ℕ → Value) (what_ifs : ℕ → List (ℕ × ℕ) → Value) → meaning (call name ts) cells what_ifs ≡ applied_to_arguments f (arguments ts cells what_ifs)

abbrev mutual
  -- Each evaluation of the tree that an error doesn't end asks for this cell: it stands in an operand, in a parameter
  -- of a function that takes the value of each, in one of a function that folds the items of each up to an error, or in
  -- the first of one that chooses another by it.
  pub IsSure : Tree → ℕ → Type 0
  IsSure (cell r) a = r.at ≡ a
  IsSure (parenthesized t) a = IsSure t a
  IsSure (signed s t) a = IsSure t a
  IsSure (percent t) a = IsSure t a
  IsSure (binary op t u) a = IsSure t a ⊎ IsSure u a
  IsSure (call name ts) a = ((f : ValueFunction) × IsCallOf name ts (Values f) × IsOneSure ts a) ⊎ (((f : LazyFunction) × IsCallOf name ts (Lazy f) × FirstIsSure ts a) ⊎ ((f : FoldFunction) × IsCallOf name ts (References (Fold f)) × IsOneSure ts a))
  IsSure t a = ⊥

  -- each evaluation of one of these trees that an error doesn't end asks for this cell
  pub IsOneSure : Trees → ℕ → Type 0
  IsOneSure no_trees a = ⊥
  IsOneSure (more_trees t ts) a = IsSure t a ⊎ IsOneSure ts a

  -- each evaluation of the first of these trees that an error doesn't end asks for this cell
  pub FirstIsSure : Trees → ℕ → Type 0
  FirstIsSure no_trees a = ⊥
  FirstIsSure (more_trees t ts) a = IsSure t a

-- the second list has the cells of the first, and others that a frame lacks and of which this is so
abbrev pub IsListedWith : Sheet → Frame → (ℕ → Type 0) → List ℕ → List ℕ → Type 0
IsListedWith s f P old new = (d : ℕ) → is_one_of new d ≡ true → (is_one_of old d ≡ true) ⊎ (P d × (lacks_cell s f.key.world f.found d ≡ true))

-- The cells are this one and others that a frame lacks, for each of which each evaluation of its formula asks that an
-- error doesn't end.
pub record AreSure (s : Sheet) (f : Frame) (t : Tree) (a : ℕ) (xs : List ℕ) : Type 0 where
  pub wanted : is_one_of xs a ≡ true
  pub others : (d : ℕ) → is_one_of xs d ≡ true → (a ≡ d) ⊎ (IsSure t d × (lacks_cell s f.key.world f.found d ≡ true))

-- and a smallest of the formula's rectangles that hold the first is that cell alone
pub record AreSureWith (s : Sheet) (f : Frame) (t : Tree) (a : ℕ) (xs : List ℕ) : Type 0 where
  pub rectangle : Area
  pub smallest : IsSmallestWith (rectangles_of t) a rectangle
  pub alone : size_of rectangle ≤ 1
  pub cells : AreSure s f t a xs
