use Rattle.wi_parser.proofs.Words.{◌≡◌, ◌++◌, length, tokens, symbols_of, all_meant}
use Rattle.wi_parser.proofs.tokens.push_symbols.Given as goal

abbrev pub invariant-loop-next : goal.invariant-loop-next
invariant-loop-next l = all_meant l.symbols.items ++ symbols_of (tokens l.lexer.rest) ≡ all_meant l.fn.symbols.items ++ symbols_of (tokens l.text)

abbrev pub decreases-loop-next : goal.decreases-loop-next
decreases-loop-next l = length l.lexer.rest
