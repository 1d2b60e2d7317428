-- The texts of symbols, and of a tree.
use Rattle.std.specs.Prelude.{List}
use Rattle.std.specs.List.{flat_map}
use Rattle.wi_fraction.specs.Text.{Bytes}
use Rattle.wi_parser.specs.Tree.{Tree}
use Rattle.wi_parser.specs.Symbol.{Symbol}
use Rattle.wi_parser.specs.Spelling.{spelling}
use Rattle.wi_parser.specs.Printing.{symbol_text}

abbrev pub symbols_text : List Symbol → Bytes
symbols_text = flat_map symbol_text

abbrev pub tree_text : Tree → Bytes
tree_text t = symbols_text (spelling t)
