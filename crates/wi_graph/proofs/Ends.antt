-- Where references do not lead on for ever.
use Rattle.wi_graph.proofs.Words.{◌≡◌, ℕ, false, false_from_ne_true, Sheet, circular, has_walk}
use Rattle.wi_graph.proofs.Walks.{circular_walks}

-- a cell from which some number of steps does not lead on is not circular
pub ends_open : (n : ℕ) (s : Sheet) (c : ℕ) → has_walk n s c ≡ false → circular s c ≡ false
ends_open n s c h = false_from_ne_true (circular s c) (λ w. let z = circular_walks s c w n in cc)
