-- The grammar of formulas: which trees are formulas (OpenFormula, "Expression Syntax").
use Rattle.std.specs.Prelude.{ℕ, ◌≤◌, ◌<◌, length}
use Rattle.wi_parser.specs.declared.expr.Operator.{Operator}
use Rattle.wi_parser.specs.declared.expr.Operator.TheVariants.{Add, Subtract, Multiply, Divide, Power, Join}
use Rattle.wi_parser.specs.Tree.{Tree, parenthesized, signed, percent, binary, what_if, Trees, call, no_trees, more_trees}

abbrev pub level_of : Operator → ℕ
level_of Power = 3
level_of Multiply = 4
level_of Divide = 4
level_of Add = 5
level_of Subtract = 5
level_of Join = 6
level_of op = 7

-- the level of a tree: 0 Atom, 1 Prefix, 2 Percent, 3 Power, 4 Product, 5 Sum, 6 Concat, 7 Compare
abbrev pub tree_level : Tree → ℕ
tree_level (signed s t) = 1
tree_level (percent t) = 2
tree_level (binary op l r) = level_of op
tree_level t = 0

abbrev mutual
  -- An operand without parentheses stands at its operator's level or a tighter one, and the right one of two at a
  -- tighter one.
  pub IsGrammatical : Tree → Type 0
  IsGrammatical (parenthesized t) = IsGrammatical t
  IsGrammatical (signed s t) = (tree_level t ≤ 1) × IsGrammatical t
  IsGrammatical (percent t) = (tree_level t ≤ 2) × IsGrammatical t
  IsGrammatical (binary op l r) =
      (tree_level l ≤ level_of op) × IsGrammatical l × (tree_level r < level_of op) × IsGrammatical r
  IsGrammatical (what_if f pairs) = (1 ≤ length pairs) × (length pairs ≤ 2)
  IsGrammatical (call f ts) = AreGrammatical ts
  IsGrammatical t = Unit {0}

  pub AreGrammatical : Trees → Type 0
  AreGrammatical no_trees = Unit {0}
  AreGrammatical (more_trees t ts) = IsGrammatical t × AreGrammatical ts
