use Rattle.wi_sessions.proofs.Words.{subst, is_staged, HasCleared}
use Rattle.wi_sessions.proofs.WordLemmas.{Words, given_back}
use Rattle.wi_sessions.proofs.cells.cancel.Goals as goal

pub returns-clause-pending : goal.returns-clause-pending
returns-clause-pending c =
    given_back c.args.words.now.entries c.args.staged.now.items c.clear_staged.new.words.entries c.clear.new.self.items
    (subst (λ (rs : Words). HasCleared (is_staged rs) c.args.words.now.entries c.clear_staged.new.words.entries) c.deref.ensures.value c.clear_staged.ensures.less)
    c.clear.ensures.items
