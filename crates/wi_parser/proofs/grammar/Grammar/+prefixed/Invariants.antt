use Rattle.wi_parser.proofs.Words.{length}
use Rattle.wi_parser.proofs.grammar.Grammar.+prefixed.Given as goal

abbrev pub decreases-prefixed : goal.decreases-prefixed
decreases-prefixed g l = length l.symbols.now
