use Rattle.wi_parser.proofs.Words.{◌≡◌, ◌≤◌, length, ℕ, more_parameters, expression, put_before}
use Rattle.wi_parser.proofs.grammar.Grammar.more_parameters.Given as goal

abbrev pub invariant-loop-symbols : goal.invariant-loop-symbols
invariant-loop-symbols g l =
    (n : ℕ) × (length l.symbols ≤ n)
    × (put_before l.fn.found.items (more_parameters (expression l.self.depth) (length l.fn.symbols) l.fn.symbols)
    ≡ put_before l.found.items (more_parameters (expression l.self.depth) n l.symbols))
    × (length l.symbols ≤ length l.fn.symbols)

abbrev pub decreases-loop-symbols : goal.decreases-loop-symbols
decreases-loop-symbols g l = length l.symbols
