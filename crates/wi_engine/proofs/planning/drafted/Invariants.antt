use Rattle.wi_engine.proofs.Words.{◌≡◌}
use Rattle.wi_engine.proofs.planning.Drafts.{AreReadable}
use Rattle.wi_engine.proofs.planning.drafted.Given as goal

abbrev pub invariant-loop : goal.invariant-loop
invariant-loop g l = record {
  path : AreReadable l.store.sheet (g.M.Memo.state l.fn.memo) l.draft.path.items;
  same : g.M.Memo.state l.memo ≡ g.M.Memo.state l.fn.memo;
}
