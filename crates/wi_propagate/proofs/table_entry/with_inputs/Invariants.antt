use Rattle.wi_propagate.proofs.Words.{◌≡◌, true, All, take, put_all, replacements, cell_value, IsSettled, HasReplacing, WhereSpace, Spends}
use Rattle.wi_propagate.proofs.table_entry.with_inputs.Given as goal

abbrev pub invariant-loop-pair : goal.invariant-loop-pair
invariant-loop-pair g l = record {
  inputs : l.inputs.items ≡ replacements (cell_value (put_all l.store.sheet l.world)) (take l.pair-index l.pairs);
  spends : Spends l.store.sheet (HasReplacing l.store.sheet l.world l.pairs) (g.M.Memo.state l.fn.question.memo) (g.M.Memo.state l.question.memo) l.fn.question.meter l.question.meter true;
  settled : WhereSpace l.store.sheet (HasReplacing l.store.sheet l.world l.pairs) (g.M.Memo.state l.fn.question.memo) (λ ks. All (λ x. IsSettled l.store.sheet (g.M.Memo.state l.question.memo).kept l.world x.1) (take l.pair-index l.pairs));
}
