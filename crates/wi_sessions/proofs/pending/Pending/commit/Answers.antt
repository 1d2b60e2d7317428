use Rattle.wi_sessions.proofs.Words.{◌∙◌, ◌||◌, ap, length, sym, AllPending, list_at, is_one_of, cells_in}
use Rattle.wi_sessions.proofs.ViewLemmas.{so_many}
use Rattle.wi_sessions.proofs.PlaceLemmas.{kept_taken}
use Rattle.wi_sessions.proofs.PendingLemmas.{rooms_gone, taken_at}
use Rattle.wi_sessions.proofs.pending.Pending.commit.Goals as goal

pub returns-clause-lists : goal.returns-clause-lists
returns-clause-lists c =
    let words = c.self.inside.words.entries in
    let n = length c.self.inside.unread.items in
    so_many (cells_in words c.clear.new.self.items) n ∙ sym (so_many (cells_in words c.self.inside.staged.items) n) ∙ ap (λ (p : AllPending). length p.pending) c.self.view_is

pub returns-clause-pending : goal.returns-clause-pending
returns-clause-pending c =
    λ i q. taken_at c.self.inside.words.entries c.self.inside.staged.items c.clear.new.self.items (length c.self.inside.unread.items) i q c.self.invariant.order c.clear.ensures.items
    ∙ ap (λ (p : AllPending). is_one_of (list_at p.pending i) q || is_one_of (list_at p.vacant i) q) c.self.view_is

pub returns-clause-vacant : goal.returns-clause-vacant
returns-clause-vacant c = λ i. rooms_gone c.self.inside.words.entries c.clear.new.self.items (length c.self.inside.unread.items) i c.clear.ensures.items

pub invariant_of-self : goal.invariant_of-self
invariant_of-self c =
    kept_taken c.self.inside.words.entries c.self.inside.staged.items c.self.inside.changed.items c.self.inside.unread.items c.self.invariant c.clear.new.self.items c.clear.ensures.items
