-- What a formula keeps.
use Rattle.std.specs.Prelude.{◌≡◌}
use Rattle.wi_parser.specs.declared.formula.Formula.TheInside.{Inside}
use Rattle.wi_parser.specs.View.{tree_of}
use Rattle.wi_parser.specs.Reads.{inputs_of, rectangles_of}
use Rattle.wi_parser.specs.Writable.{IsFormulaTree}

-- its tree is one that a text can have, and its inputs and the rectangles that it reads stand beside it
pub record IsFormula (f : Inside) : Type 0 where
  pub tree : IsFormulaTree (tree_of f.expr)
  pub inputs : f.lists.value.inputs.items ≡ inputs_of (tree_of f.expr)
  pub rectangles : f.lists.value.rectangles.items ≡ rectangles_of (tree_of f.expr)
