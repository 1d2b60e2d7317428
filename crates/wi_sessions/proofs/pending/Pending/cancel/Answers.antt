use Rattle.wi_sessions.proofs.Words.{◌∙◌, ap, length, AllPending}
use Rattle.wi_sessions.proofs.PlaceLemmas.{kept_given}
use Rattle.wi_sessions.proofs.PendingLemmas.{pending_same, rooms_gone}
use Rattle.wi_sessions.proofs.pending.Pending.cancel.Goals as goal

pub cancel-requires : goal.cancel-requires
cancel-requires c = c.self.invariant.order

pub returns-clause-pending : goal.returns-clause-pending
returns-clause-pending c =
    pending_same c.self.inside.words.entries c.self.inside.staged.items c.cancel.new.words.entries c.cancel.new.staged.items (length c.self.inside.unread.items)
    c.self.invariant.order c.cancel.ensures.order c.cancel.ensures.pending ∙ ap (λ (p : AllPending). p.pending) c.self.view_is

pub returns-clause-vacant : goal.returns-clause-vacant
returns-clause-vacant c = λ i. rooms_gone c.cancel.new.words.entries c.cancel.new.staged.items (length c.self.inside.unread.items) i c.cancel.ensures.none

pub invariant_of-self : goal.invariant_of-self
invariant_of-self c =
    kept_given c.self.inside.words.entries c.self.inside.staged.items c.self.inside.changed.items c.self.inside.unread.items c.self.invariant
    c.cancel.new.words.entries c.cancel.new.staged.items c.cancel.ensures.order c.cancel.ensures.pending c.cancel.ensures.none
