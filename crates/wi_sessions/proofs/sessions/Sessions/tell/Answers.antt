use Rattle.wi_sessions.proofs.Words.{[], ℕ, List, sym, ap, ◌∙◌, length, rc_str_bytes, slice_set, length-set, set_value_at, index_map_len-with_value_at, on_err, Session, new_session, told, Roster, roster_in, session_in, Details, refl, pending_of, vacant_of}
use Rattle.wi_sessions.proofs.RosterLemmas.{entry_at, part_at, part_set, put_back, within_lists}
use Rattle.wi_sessions.proofs.NoneLemmas.{nil_both}
use Rattle.wi_sessions.proofs.sessions.Sessions.tell.Goals as goal

pub all-requires : goal.all-requires
all-requires c = within_lists c.self.inside.details.entries c.self.inside.pending c.args.self.now c.args.i c.self.view_is c.self.invariant c.requires

pub returns-clause-sessions : goal.returns-clause-sessions
returns-clause-sessions c =
    let items = c.self.inside.details.entries in
    let x = c.index_mut.result.now in
    let e = entry_at items c.args.i x c.index_mut.ensures.value in
    part_set session_in items c.args.i e.0 x c.args.self.now.sessions e.1 (ap (λ (r : Roster). r.sessions) c.self.view_is) c.tell.new.self _
    (c.in_ok-tell.ensures.told (rc_str_bytes e.0) ∙ ap (λ (s : Session). told s c.args.changes.items c.args.seen)
    (sym (part_at session_in items c.args.i e.0 x c.args.self.now.sessions e.1 (ap (λ (r : Roster). r.sessions) c.self.view_is) (new_session []))))

pub returns-clause-pending : goal.returns-clause-pending
returns-clause-pending c = c.clear.ensures.pending ∙ ap (λ (r : Roster). slice_set r.pending c.args.i []) c.self.view_is

pub returns-clause-vacant : goal.returns-clause-vacant
returns-clause-vacant c = c.clear.ensures.vacant ∙ ap (λ (r : Roster). slice_set r.vacant c.args.i []) c.self.view_is

pub invariant_of-self : goal.invariant_of-self
invariant_of-self c = c.self.invariant ∙ sym (index_map_len-with_value_at c.self.inside.details c.args.i _)

pub returns-in_err-tell-clause-refused : goal.returns-in_err-tell-clause-refused
returns-in_err-tell-clause-refused c =
    let items = c.self.inside.details.entries in
    let p = c.self.inside.pending in
    on_err c.from_residual-in_err-tell.result
    (ap (λ (y : Details). roster_in (set_value_at items c.args.i y) p) c.in_err-tell.ensures.refused
    ∙ ap (λ es. roster_in es p) (put_back items c.args.i c.index_mut.result.now c.index_mut.ensures.value) ∙ c.self.view_is)

pub invariant_of-self-2 : goal.invariant_of-self-2
invariant_of-self-2 c =
    ap (λ (xss : List (List ℕ)). length xss) c.clear.ensures.pending ∙ length-set c.self.inside.pending.pending c.args.i [] ∙ c.self.invariant
    ∙ sym (index_map_len-with_value_at c.self.inside.details c.args.i _)

pub returns-in_err-all-clause-none : goal.returns-in_err-all-clause-none
returns-in_err-all-clause-none c =
    λ none bare untold.
    absurd (c.in_err-all.ensures (nil_both _ _ (ap (λ (r : Roster). pending_of r c.args.i) c.self.view_is ∙ none) (ap (λ (r : Roster). vacant_of r c.args.i) c.self.view_is ∙ bare)))

pub returns-in_err-tell-clause-none : goal.returns-in_err-tell-clause-none
returns-in_err-tell-clause-none c = λ none bare untold. absurd (c.in_err-tell.ensures.some untold)

pub returns-clause-none : goal.returns-clause-none
returns-clause-none c = λ none bare untold. refl
