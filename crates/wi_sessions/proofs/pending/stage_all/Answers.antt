use Rattle.wi_sessions.proofs.Words.{◌∙◌, ◌≤◌, ℕ, ap, length, refl, subst, sym, nat_lt}
use Rattle.wi_sessions.proofs.WordLemmas.{has_made_same}
use Rattle.wi_sessions.proofs.pending.stage_all.Goals as goal

pub bits_of-bits-requires : goal.bits_of-bits-requires
bits_of-bits-requires c = subst (λ (n : ℕ). n ≤ 64) (sym (c.len.ensures ∙ c.track.new.unread.ok.0 ∙ c.track.ensures.lists)) c.requires.few

pub returns-in_err-track-clause-pending : goal.returns-in_err-track-clause-pending
returns-in_err-track-clause-pending c = λ i q. refl

pub returns-in_err-stage_each-clause-pending : goal.returns-in_err-stage_each-clause-pending
returns-in_err-stage_each-clause-pending c = c.in_err-stage_each.ensures.rooms.pending

pub returns-in_err-stage_each-clause-places : goal.returns-in_err-stage_each-clause-places
returns-in_err-stage_each-clause-places c = c.track.ensures.places

pub returns-clause-pending : goal.returns-clause-pending
returns-clause-pending c = c.in_ok-stage_each.ensures.rooms.pending

pub returns-clause-places : goal.returns-clause-places
returns-clause-places c = c.track.ensures.places

pub returns-clause-looked : goal.returns-clause-looked
returns-clause-looked c = c.in_ok-track.ensures.looked

pub returns-clause-room : goal.returns-clause-room
returns-clause-room c =
    has_made_same c.args.cells.now c.bits_of-bits.result (λ i. nat_lt i (length c.args.unread.now.items)) c.args.words.now.entries c.args.staged.now.items c.stage_each.new.words.entries c.stage_each.new.staged.items
    (λ i. c.bits_of-bits.ensures i ∙ ap (λ n. nat_lt i n) (c.len.ensures ∙ c.track.new.unread.ok.0 ∙ c.track.ensures.lists)) c.in_ok-stage_each.ensures.rooms.room
