use Rattle.wi_sessions.proofs.Words.{◌∙◌, sym}
use Rattle.wi_sessions.proofs.WordLemmas.{none_pushed, one_pushed}
use Rattle.wi_sessions.proofs.NoneLemmas.{fails_so}
use Rattle.wi_sessions.proofs.cells.push_with.Goals as goal

pub returns-in_ok-push : goal.returns-in_ok-push
returns-in_ok-push c = one_pushed c.args.found.now.items c.push.new.self.items c.args.at c.args.word c.args.i c.in_ok-push.ensures.items (sym c.has.ensures ∙ c.if-has.true)

pub returns-else-has : goal.returns-else-has
returns-else-has c = none_pushed c.args.found.now.items c.args.at c.args.word c.args.i (sym c.has.ensures ∙ c.if-has.false)

pub returns-in_err-push : goal.returns-in_err-push
returns-in_err-push c = fails_so _ _ _ c.from_residual.result c.from_residual.ensures.1 (λ error. sym c.has.ensures ∙ c.if-has.true)
