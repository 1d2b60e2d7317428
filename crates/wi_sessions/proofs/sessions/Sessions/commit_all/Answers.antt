use Rattle.wi_sessions.proofs.Words.{◌∙◌, ◌||◌, ap, length, is_one_of, Roster, pending_of, vacant_of}
use Rattle.wi_sessions.proofs.sessions.Sessions.commit_all.Goals as goal

pub returns-clause-sessions : goal.returns-clause-sessions
returns-clause-sessions c = ap (λ (r : Roster). r.sessions) c.self.view_is

pub returns-clause-lists : goal.returns-clause-lists
returns-clause-lists c = c.commit.ensures.lists ∙ ap (λ (r : Roster). length r.pending) c.self.view_is

pub returns-clause-pending : goal.returns-clause-pending
returns-clause-pending c = λ i q. c.commit.ensures.pending i q ∙ ap (λ (r : Roster). is_one_of (pending_of r i) q || is_one_of (vacant_of r i) q) c.self.view_is

pub returns-clause-vacant : goal.returns-clause-vacant
returns-clause-vacant c = c.commit.ensures.vacant

pub invariant_of-self : goal.invariant_of-self
invariant_of-self c = c.commit.ensures.lists ∙ c.self.invariant
