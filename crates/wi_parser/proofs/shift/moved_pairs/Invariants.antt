use Rattle.wi_parser.proofs.Words.{◌≡◌, map, take, pair_of}
use Rattle.wi_parser.specs.Inner.Moves as moves
use Rattle.wi_parser.proofs.shift.moved_pairs.Given as goal

abbrev pub invariant-loop-pair : goal.invariant-loop-pair
invariant-loop-pair l =
    map pair_of l.all.items ≡ map (λ q. (moves.moved l.rows l.columns q.0, moves.moved l.rows l.columns q.1)) (map pair_of (take l.pair-index l.pairs))
