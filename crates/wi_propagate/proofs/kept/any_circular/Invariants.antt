use Rattle.wi_propagate.proofs.Words.{◌≡◌, false, take, list_any, Sheet, circular, AreEdgesOf}
use Rattle.wi_propagate.proofs.kept.any_circular.Given as goal

-- none of those passed is circular
abbrev pub invariant-loop-pair : goal.invariant-loop-pair
invariant-loop-pair l = (s : Sheet) → AreEdgesOf l.graph.now s → list_any (λ x. circular s x.1) (take l.pair-index l.pairs) ≡ false
