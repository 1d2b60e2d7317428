use Rattle.wi_parser.proofs.Words.{◌≡◌, ◌++◌, map, drop, pair_of, cell_area}
use Rattle.wi_parser.proofs.formula.push_pairs.Given as goal

abbrev pub invariant-loop-pair : goal.invariant-loop-pair
invariant-loop-pair l =
    (l.inputs.items ++ map (λ p. p.0.at) (map pair_of (drop l.pair-index l.pairs)) ≡ l.fn.inputs.items ++ map (λ p. p.0.at) (map pair_of l.pairs))
    × (l.rectangles.items ++ map (λ p. cell_area p.1.at) (map pair_of (drop l.pair-index l.pairs)) ≡ l.fn.rectangles.items ++ map (λ p. cell_area p.1.at) (map pair_of l.pairs))
