use Rattle.wi_sessions.proofs.Words.{◌≡◌, ◌+◌, ◌∙◌, ℕ, List, [], ◌∷◌, ◌++◌, get_or, length, ap, sym, arith, length-append, new_session, AllPending, Roster, roster_in, session_in}
use Rattle.wi_sessions.proofs.RosterLemmas.{told_more, empty_after, popped_again}
use Rattle.wi_sessions.proofs.sessions.Sessions.push.Goals as goal

pub returns-in-Ok-clause-sessions : goal.returns-in-Ok-clause-sessions
returns-in-Ok-clause-sessions c =
    told_more session_in c.self.inside.details.entries _ c.in_ok-name.name c.new.result c.args.self.now.sessions (new_session c.args.name.now) c.in_ok-add.ensures.added
    (ap (λ (r : Roster). r.sessions) c.self.view_is) (c.new.ensures _ ∙ ap (λ (bs : List ℕ). new_session bs) c.in_ok-name.ensures.ok)

pub returns-in-Ok-clause-pending : goal.returns-in-Ok-clause-pending
returns-in-Ok-clause-pending c =
    let p = c.in-Ok.ensures.pending in
    (p.0, p.1 ∙ ap (λ (r : Roster). r.pending ++ p.0 ∷ []) c.self.view_is, p.2)

pub returns-in-Ok-clause-vacant : goal.returns-in-Ok-clause-vacant
returns-in-Ok-clause-vacant c =
    λ i. ap (λ (xss : List (List ℕ)). get_or xss i []) c.in-Ok.ensures.vacant ∙ empty_after c.self.inside.pending.vacant i ∙ ap (λ (r : Roster). get_or r.vacant i []) c.self.view_is

pub invariant_of-self-in-Ok : goal.invariant_of-self-in-Ok
invariant_of-self-in-Ok c =
    let p = c.in-Ok.ensures.pending in
    ap (λ (xss : List (List ℕ)). length xss) p.1 ∙ length-append c.self.inside.pending.pending (p.0 ∷ []) ∙ ap (λ (n : ℕ). n + 1) c.self.invariant
    ∙ sym (ap (λ es. length es) c.in_ok-add.ensures.added ∙ length-append c.self.inside.details.entries ((c.in_ok-name.name, c.new.result) ∷ []))

pub returns-in-Err-clause-refused : goal.returns-in-Err-clause-refused
returns-in-Err-clause-refused c =
    let long : length c.add.new.sessions.entries ≡ length c.self.inside.details.entries + 1 = ap (λ es. length es) c.in_ok-add.ensures.added ∙ length-append c.self.inside.details.entries ((c.in_ok-name.name, c.new.result) ∷ []) in
    ap (λ es. roster_in es c.push.new.self) (popped_again c.self.inside.details.entries _ c.pop.new.self.entries _ c.pop.result c.in_ok-add.ensures.added c.pop.ensures.entries (c.pop.ensures.found.1 (omega (arith, long))))
    ∙ ap (λ (p : AllPending). roster_in c.self.inside.details.entries p) c.in-Err.ensures.refused ∙ c.self.view_is

pub invariant_of-self-in-Err : goal.invariant_of-self-in-Err
invariant_of-self-in-Err c =
    let long : length c.add.new.sessions.entries ≡ length c.self.inside.details.entries + 1 = ap (λ es. length es) c.in_ok-add.ensures.added ∙ length-append c.self.inside.details.entries ((c.in_ok-name.name, c.new.result) ∷ []) in
    ap (λ (p : AllPending). length p.pending) c.in-Err.ensures.refused ∙ c.self.invariant
    ∙ sym (ap (λ es. length es) (popped_again c.self.inside.details.entries _ c.pop.new.self.entries _ c.pop.result c.in_ok-add.ensures.added c.pop.ensures.entries (c.pop.ensures.found.1 (omega (arith, long)))))
