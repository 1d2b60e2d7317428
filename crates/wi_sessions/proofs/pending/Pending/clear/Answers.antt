use Rattle.wi_sessions.proofs.Words.{◌<◌, ◌∙◌, length, set, arith}
use Rattle.wi_sessions.proofs.PendingLemmas.{HasForgotten, forgotten, listed_told, within_unread}
use Rattle.wi_sessions.proofs.pending.Pending.clear.Goals as goal

cleared : (c : goal.After-self-1) → HasForgotten c.args.self.now c.forget.new.words.entries c.self.inside.staged.items c.self.inside.changed.items (set c.self.inside.unread.items c.args.i c.read.new.self) c.args.i
cleared c =
    let i = c.self.inside in
    let us = i.unread.items in
    let l : c.args.i < length us = within_unread i.words.entries i.staged.items (length us) c.args.i c.args.self.now c.self.view_is c.requires.within in
    forgotten i.words.entries c.forget.new.words.entries i.staged.items i.changed.items us c.read.new.self c.args.all.now c.args.i c.self.invariant c.forget.ensures.order l
    (λ q. c.requires.all q ∙ listed_told i.words.entries i.staged.items (length us) c.args.i c.args.self.now c.self.invariant.order c.self.view_is l q) c.forget.ensures.less c.args.self.now c.self.view_is
    (c.read.ensures ∙ c.len-length.ensures ∙ i.changed.ok.0)

pub returns-clause-pending : goal.returns-clause-pending
returns-clause-pending c = (cleared c).pending

pub returns-clause-vacant : goal.returns-clause-vacant
returns-clause-vacant c = (cleared c).vacant

pub invariant_of-self : goal.invariant_of-self
invariant_of-self c = (cleared c).kept

pub forget-requires-clause-all : goal.forget-requires-clause-all
forget-requires-clause-all c =
    λ q. c.requires.all q ∙ listed_told c.self.inside.words.entries c.self.inside.staged.items (length c.self.inside.unread.items) c.args.i c.args.self.now c.self.invariant.order c.self.view_is
    (within_unread c.self.inside.words.entries c.self.inside.staged.items (length c.self.inside.unread.items) c.args.i c.args.self.now c.self.view_is c.requires.within) q

pub forget-requires-clause-within : goal.forget-requires-clause-within
forget-requires-clause-within c =
    let l = within_unread c.self.inside.words.entries c.self.inside.staged.items (length c.self.inside.unread.items) c.args.i c.args.self.now c.self.view_is c.requires.within in
    omega (arith, l, c.len.ensures, c.self.inside.unread.ok.0)

pub index_mut-requires : goal.index_mut-requires
index_mut-requires c =
    let l = within_unread c.self.inside.words.entries c.self.inside.staged.items (length c.self.inside.unread.items) c.args.i c.args.self.now c.self.view_is c.requires.within in
    omega (arith, l, c.self.inside.unread.ok.0)
