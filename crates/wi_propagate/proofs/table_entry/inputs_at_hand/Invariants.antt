use Rattle.wi_propagate.proofs.Words.{◌≡◌, take, put_all, replacements, cell_value}
use Rattle.wi_propagate.proofs.table_entry.inputs_at_hand.Given as goal

abbrev pub invariant-loop-pair : goal.invariant-loop-pair
invariant-loop-pair g l = record {
  inputs : l.replaced.items ≡ replacements (cell_value (put_all l.store.sheet l.world)) (take l.pair-index l.pairs);
  same : g.M.Memo.state l.question.memo ≡ g.M.Memo.state l.fn.question.memo;
  counts : l.question.meter ≡ l.fn.question.meter;
}
