-- The symbols of a what-if.
use Rattle.std.specs.Prelude.{List, [], ◌∷◌, ◌++◌}
use Rattle.wi_parser.specs.declared.expr.Reference.{Reference}
use Rattle.wi_parser.specs.Symbol.{Symbol, reference, open_parenthesis, close_parenthesis, separator, what_if_name}

-- an input and its replacement cell
abbrev pub pair_symbols : Reference × Reference → List Symbol
pair_symbols p = separator ∷ reference p.0 ∷ separator ∷ reference p.1 ∷ []

abbrev pub what_if_symbols : Reference → List Symbol → List Symbol
what_if_symbols f parameters = what_if_name ∷ open_parenthesis ∷ reference f ∷ parameters ++ close_parenthesis ∷ []
