use Rattle.wi_sessions.proofs.Words.{◌≡◌, ◌++◌, ◌∷◌, ◌∙◌, List, [], length, refl, ap, sym, subst, arith, rules, common_steps, on_err, Unread, cells_in, pending_in, AreKept}
use Rattle.wi_sessions.proofs.PendingLemmas.{HasOneMore, one_more, refused_kept, refused_same}
use Rattle.wi_sessions.proofs.pending.Pending.push.Goals as goal

pub bit_of-requires : goal.bit_of-requires
bit_of-requires c = omega (arith, c.if-i-ge64.false)

pub add_bits-requires : goal.add_bits-requires
add_bits-requires c = c.self.invariant.order

pub unwrap-requires : goal.unwrap-requires
unwrap-requires c = c.push.ensures.succeeds (grind (arith, common_steps))

pub returns-in_err-reserve-clause-refused : goal.returns-in_err-reserve-clause-refused
returns-in_err-reserve-clause-refused c =
    on_err c.from_residual.result
    (ap (λ (us : List Unread). pending_in c.self.inside.words.entries c.self.inside.staged.items (length us)) c.reserve.ensures.items ∙ c.self.view_is)

pub returns-in_err-unread-clause-refused : goal.returns-in_err-unread-clause-refused
returns-in_err-unread-clause-refused c =
    on_err c.from_residual-in_err-unread.result
    (ap (λ (us : List Unread). pending_in c.self.inside.words.entries c.self.inside.staged.items (length us)) c.reserve.ensures.items ∙ c.self.view_is)

pub returns-in_err-add_bits-clause-refused : goal.returns-in_err-add_bits-clause-refused
returns-in_err-add_bits-clause-refused c =
    on_err c.from_residual-in_err-add_bits.result
    (ap (λ (us : List Unread). pending_in c.add_bits.new.words.entries c.self.inside.staged.items (length us)) c.reserve.ensures.items
    ∙ refused_same c.self.inside.words.entries c.self.inside.staged.items c.add_bits.new.words.entries c.self.invariant.order c.add_bits.ensures.order c.in_err-add_bits.ensures.refused (length c.self.inside.unread.items)
    ∙ c.self.view_is)

-- the session comes last
pushed : (c : goal.After-unwrap) → HasOneMore c.args.self.now c.add_bits.new.words.entries c.self.inside.staged.items c.self.inside.changed.items c.push.new.self.items (cells_in c.add_bits.new.words.entries c.self.inside.staged.items (length c.self.inside.unread.items)) c.args.cells.now
pushed c =
    let i = c.self.inside in
    let us = i.unread.items in
    let last : c.push.new.self.items ≡ us ++ c.in_ok-unread.unread ∷ [] = grind (arith, common_steps) in
    one_more i.words.entries i.staged.items c.add_bits.new.words.entries i.changed.items us c.in_ok-unread.unread (length us) c.bit_of.result c.args.cells.now refl c.self.invariant c.add_bits.ensures.order (search rules)
    (search rules) c.in_ok-add_bits.ensures.put c.args.self.now c.push.new.self.items c.self.view_is last (search rules) (c.in_ok-unread.ensures.own i.changed.items)

pub returns-clause-pending : goal.returns-clause-pending
returns-clause-pending c = (cells_in c.add_bits.new.words.entries c.self.inside.staged.items (length c.self.inside.unread.items), (pushed c).pending, (pushed c).same)

pub returns-clause-vacant : goal.returns-clause-vacant
returns-clause-vacant c = (pushed c).vacant

pub invariant_of-self-2 : goal.invariant_of-self-2
invariant_of-self-2 c = (pushed c).kept

pub invariant_of-self : goal.invariant_of-self
invariant_of-self c =
    subst (λ (us : List Unread). AreKept c.self.inside.words.entries c.self.inside.staged.items c.self.inside.changed.items us) (sym c.reserve.ensures.items) c.self.invariant

pub invariant_of-self-in_err-unread : goal.invariant_of-self-in_err-unread
invariant_of-self-in_err-unread c =
    subst (λ (us : List Unread). AreKept c.self.inside.words.entries c.self.inside.staged.items c.self.inside.changed.items us) (sym c.reserve.ensures.items) c.self.invariant

pub invariant_of-self-in_err-add_bits : goal.invariant_of-self-in_err-add_bits
invariant_of-self-in_err-add_bits c =
    subst (λ (us : List Unread). AreKept c.add_bits.new.words.entries c.self.inside.staged.items c.self.inside.changed.items us) (sym c.reserve.ensures.items)
    (refused_kept c.self.inside.words.entries c.self.inside.staged.items c.add_bits.new.words.entries c.self.invariant.order c.add_bits.ensures.order c.in_err-add_bits.ensures.refused
    c.self.inside.changed.items c.self.inside.unread.items c.self.invariant)
