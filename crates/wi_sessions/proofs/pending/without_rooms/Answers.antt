use Rattle.wi_sessions.proofs.NoneLemmas.{fails_so, some_at}
use Rattle.wi_sessions.proofs.pending.without_rooms.Goals as goal

pub returns-in_err-push : goal.returns-in_err-push
returns-in_err-push c = fails_so _ _ _ c.from_residual.result c.from_residual.ensures.1 (λ error. some_at c.args.cells.now c.loop-at.at-index c.loop-at-test.true)
