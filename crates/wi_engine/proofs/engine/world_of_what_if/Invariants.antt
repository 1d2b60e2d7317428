use Rattle.wi_engine.proofs.Words.{◌≡◌, All, map, take, pair_of, put_all, addresses, replacements, cell_value, IsSettled, KeepsFound}
use Rattle.wi_engine.proofs.engine.world_of_what_if.Given as goal

abbrev pub invariant-loop-pair : goal.invariant-loop-pair
invariant-loop-pair g l = record {
  inputs : l.inputs.items ≡ replacements (cell_value (put_all l.store.sheet l.world)) (map addresses (map pair_of (take l.pair-index l.pairs)));
  settled : KeepsFound (g.M.Memo.state l.fn.memo) → All (λ p. IsSettled l.store.sheet (g.M.Memo.state l.fn.memo).kept l.world p.replacement.at) (take l.pair-index l.pairs);
  same : g.M.Memo.state l.memo ≡ g.M.Memo.state l.fn.memo;
}
