-- How deep a formula nests. The limit goes by its symbols, `is_too_deep`; the depth of its tree serves laws alone.
use Rattle.std.specs.Prelude.{ℕ, suc, ◌-◌, max, List, [], ◌∷◌, Bool, true, false, ◌||◌, nat_lt}
use Rattle.std.specs.List.{prefix_len}
use Rattle.wi_parser.specs.declared.expr.Operator.TheVariants.{Add, Subtract}
use Rattle.wi_parser.specs.Tree.{Tree, Trees, number, text, cell, rectangle, parenthesized, signed, percent, binary, what_if, call, no_trees, more_trees}
use Rattle.wi_parser.specs.Symbol.{Symbol, open_parenthesis, close_parenthesis, infix_mark}

abbrev mutual
  -- How many parenthesized trees and calls stand one inside another, at most. The parentheses of a what-if hold no
  -- tree.
  pub depth : Tree → ℕ
  depth (number x) = 0
  depth (text s) = 0
  depth (cell r) = 0
  depth (rectangle c) = 0
  depth (parenthesized t) = suc (depth t)
  depth (signed s t) = depth t
  depth (percent t) = depth t
  depth (binary op l r) = max (depth l) (depth r)
  depth (what_if f pairs) = 0
  depth (call f ts) = suc (greatest_depth ts)

  pub greatest_depth : Trees → ℕ
  greatest_depth no_trees = 0
  greatest_depth (more_trees t ts) = max (depth t) (greatest_depth ts)

-- how many more parentheses open than close in a beginning of the symbols, at most
abbrev pub opened : List Symbol → ℕ
opened [] = 0
opened (open_parenthesis ∷ ts) = suc (opened ts)
opened (close_parenthesis ∷ ts) = opened ts - 1
opened (s ∷ ts) = opened ts

abbrev pub is_sign : Symbol → Bool
is_sign (infix_mark Add) = true
is_sign (infix_mark Subtract) = true
is_sign s = false

abbrev pub max_depth : ℕ
max_depth = 64

-- from some symbol on more parentheses than that are open at once, or more signs than that stand one after another
abbrev pub is_too_deep : List Symbol → Bool
is_too_deep [] = false
is_too_deep (s ∷ ts) = (nat_lt max_depth (opened (s ∷ ts)) || nat_lt max_depth (prefix_len is_sign (s ∷ ts))) || is_too_deep ts
