use Rattle.wi_parser.proofs.Words.{◌≡◌, ◌<◌, length, tree_of}
use Rattle.wi_parser.specs.Inner.Reader as reader
use Rattle.wi_parser.proofs.Climbing.{loops}
use Rattle.wi_parser.proofs.grammar.Grammar.+level.Given as goal

abbrev pub decreases-level : goal.decreases-level
decreases-level g l = l.level

abbrev pub invariant-loop-op : goal.invariant-loop-op
invariant-loop-op g l =
    (reader.level (reader.expression l.self.depth) l.level l.fn.symbols ≡ loops (reader.expression l.self.depth) l.level (tree_of l.left) l.symbols)
    × (length l.symbols < length l.fn.symbols)

abbrev pub decreases-loop-op : goal.decreases-loop-op
decreases-loop-op g l = length l.symbols
