-- A formula's tree, as definitions see it.
use Rattle.std.specs.Prelude.{List, [], ◌∷◌}
use Rattle.wi_fraction.specs.Number.{Number}
use Rattle.wi_values.specs.Address.{Area, rect_of}
use Rattle.wi_parser.specs.declared.expr.Corners.{Corners}
use Rattle.wi_parser.specs.declared.expr.Operator.{Operator}
use Rattle.wi_parser.specs.declared.expr.Reference.{Reference}
use Rattle.wi_parser.specs.declared.expr.Sign.{Sign}
use Rattle.wi_fraction.specs.Text.{Bytes}

abbrev pub area_of : Corners → Area
area_of c = rect_of c.one.at c.other.at

mutual
  -- Each input has its replacement cell beside it. A call's name is in capitals.
  pub data Tree : Type 0 where
    number : Number → Tree
    text : Bytes → Tree
    cell : Reference → Tree
    rectangle : Corners → Tree
    parenthesized percent : Tree → Tree
    signed : Sign → Tree → Tree
    binary : Operator → Tree → Tree → Tree
    what_if : Reference → List (Reference × Reference) → Tree
    call : Bytes → Trees → Tree

  pub data Trees : Type 0 where
    no_trees : Trees
    more_trees : Tree → Trees → Trees

-- the trees of a list
abbrev pub trees_of : List Tree → Trees
trees_of [] = no_trees
trees_of (t ∷ ts) = more_trees t (trees_of ts)
