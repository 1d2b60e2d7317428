use Rattle.wi_sessions.proofs.Words.{◌∙◌, ℕ, List, ap, length, Roster}
use Rattle.wi_sessions.proofs.sessions.Sessions.cancel_all.Goals as goal

pub returns-clause-sessions : goal.returns-clause-sessions
returns-clause-sessions c = ap (λ (r : Roster). r.sessions) c.self.view_is

pub returns-clause-pending : goal.returns-clause-pending
returns-clause-pending c = c.cancel.ensures.pending ∙ ap (λ (r : Roster). r.pending) c.self.view_is

pub returns-clause-vacant : goal.returns-clause-vacant
returns-clause-vacant c = c.cancel.ensures.vacant

pub invariant_of-self : goal.invariant_of-self
invariant_of-self c = ap (λ (xss : List (List ℕ)). length xss) c.cancel.ensures.pending ∙ c.self.invariant
