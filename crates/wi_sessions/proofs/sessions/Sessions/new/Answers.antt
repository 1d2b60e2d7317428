use Rattle.wi_sessions.proofs.Words.{◌≡◌, ℕ, List, [], ◌∷◌, ◌++◌, map, get_or, length, ap, sym, ◌∙◌, Global, RcStr, is_one_of, new_session, session_in, Details}
use Rattle.wi_sessions.proofs.sessions.Sessions.new.Goals as goal

pub invariant_of-sessions : goal.invariant_of-sessions
invariant_of-sessions c = ap (λ (xss : List (List ℕ)). length xss) c.new-pending.ensures.pending ∙ sym (ap (λ (es : List (RcStr Global × Details)). length es) c.new-details.ensures.empty)

pub returns-clause-sessions : goal.returns-clause-sessions
returns-clause-sessions c =
    c.in_ok-push.ensures.sessions ∙ ap (λ (es : List (RcStr Global × Details)). map session_in es ++ new_session c.args.name.now ∷ []) c.new-details.ensures.empty

pub returns-clause-pending : goal.returns-clause-pending
returns-clause-pending c =
    let p = c.in_ok-push.ensures.pending in
    let e : c.push.new.self.pending ≡ p.0 ∷ [] = p.1 ∙ ap (λ (xss : List (List ℕ)). xss ++ p.0 ∷ []) c.new-pending.ensures.pending in
    λ a. ap (λ (xs : List (List ℕ)). is_one_of (get_or xs 0 []) a) e ∙ p.2 a

pub returns-clause-vacant : goal.returns-clause-vacant
returns-clause-vacant c = λ i. c.in_ok-push.ensures.vacant i ∙ ap (λ (xss : List (List ℕ)). get_or xss i []) c.new-pending.ensures.vacant
