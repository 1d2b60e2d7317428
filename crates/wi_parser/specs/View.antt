-- The tree that an expression stands for.
use Rattle.std.specs.Prelude.{map, List}
use Rattle.wi_parser.specs.Tree.{Tree, Trees, number, text, cell, rectangle, parenthesized, signed, percent, binary, what_if, call, trees_of}
use Rattle.wi_parser.specs.declared.expr.Expr.{Expr, fold-Expr}
use Rattle.wi_parser.specs.declared.expr.Expr.TheOpen.{Expr-F}
use Rattle.wi_parser.specs.declared.expr.Pair.{Pair}
use Rattle.wi_parser.specs.declared.expr.Reference.{Reference}

-- an input and its replacement cell
abbrev pub pair_of : Pair → Reference × Reference
pair_of p = (p.input, p.replacement)

-- one level, with each part already seen as its tree
abbrev pub layer_tree : Expr-F Tree → Tree
layer_tree (Expr-F.Number x) = number x
layer_tree (Expr-F.Text s) = text s
layer_tree (Expr-F.Cell r) = cell r
layer_tree (Expr-F.Rectangle c) = rectangle c
layer_tree (Expr-F.Parenthesized t) = parenthesized t.value
layer_tree (Expr-F.Signed s t) = signed s t.value
layer_tree (Expr-F.Percent t) = percent t.value
layer_tree (Expr-F.Binary op t) = binary op t.value.0 t.value.1
layer_tree (Expr-F.WhatIf t) = what_if t.value.formula_cell (map pair_of t.value.pairs.items)
layer_tree (Expr-F.Call t) = call t.value.0 (trees_of t.value.1.items)

-- the tree of an expression
abbrev pub tree_of : Expr → Tree
tree_of = fold-Expr Tree layer_tree

-- the trees of expressions
abbrev pub all_of : List Expr → Trees
all_of es = trees_of (map tree_of es)
