use Rattle.wi_sessions.proofs.Words.{◌∙◌, refl, sym}
use Rattle.wi_sessions.proofs.PlaceLemmas.{unread_anew}
use Rattle.wi_sessions.proofs.unread.Unread.begin_anew.Goals as goal

pub returns-then-has_read-clause-stay : goal.returns-then-has_read-clause-stay
returns-then-has_read-clause-stay c =
    λ changed q e h. unread_anew changed c.args.self.now (record c.args.self.now { from = 0 }) (c.has_read.ensures c.if-has_read.true ∙ sym e) refl refl q h

pub returns-clause-stay : goal.returns-clause-stay
returns-clause-stay c = λ changed q e h. refl
