use Rattle.wi_parser.proofs.Words.{◌≡◌, ◌<◌, length, tree_of}
use Rattle.wi_parser.specs.Inner.Reader as reader
use Rattle.wi_parser.proofs.grammar.Grammar.percents.Given as goal

abbrev pub invariant-loop-operand : goal.invariant-loop-operand
invariant-loop-operand g l =
    (reader.level (reader.expression l.self.depth) 2 l.fn.symbols ≡ reader.percents (tree_of l.operand) l.symbols)
    × (length l.symbols < length l.fn.symbols)

abbrev pub decreases-loop-operand : goal.decreases-loop-operand
decreases-loop-operand g l = length l.symbols
