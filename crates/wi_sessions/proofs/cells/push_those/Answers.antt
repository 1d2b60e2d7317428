use Rattle.wi_sessions.proofs.Words.{◌∙◌, sym, is_in}
use Rattle.wi_sessions.proofs.NoneLemmas.{fails_so, filter_finds}
use Rattle.wi_sessions.proofs.cells.push_those.Goals as goal

pub returns-in_err-push : goal.returns-in_err-push
returns-in_err-push c =
    fails_so _ _ _ c.from_residual.result c.from_residual.ensures.1
    (λ error. filter_finds (is_in c.args.words.now.entries c.args.i) c.args.cells.now c.loop-at.at-index c.at-item.result c.loop-at-test.true c.at-item.is (sym c.is_in.ensures ∙ c.if-is_in.true))
