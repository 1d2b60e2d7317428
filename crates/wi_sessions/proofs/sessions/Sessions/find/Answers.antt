use Rattle.wi_sessions.proofs.Words.{◌≡◌, ℕ, Option, map, sym, ap, subst, ◌∙◌, IfSome, is_some, has_session, index_of, Roster, session_in}
use Rattle.wi_sessions.proofs.RosterLemmas.{found_session, place_found}
use Rattle.wi_sessions.proofs.sessions.Sessions.find.Goals as goal

pub returns-clause-found : goal.returns-clause-found
returns-clause-found c =
    ap is_some c.get_index_of.ensures.index ∙ found_session c.args.name.now c.self.inside.details.entries
    ∙ ap (λ (r : Roster). has_session r.sessions c.args.name.now) c.self.view_is

pub returns-clause-place : goal.returns-clause-place
returns-clause-place c =
    subst (λ (r : Roster). IfSome c.get_index_of.result (λ i. i ≡ index_of r.sessions c.args.name.now)) c.self.view_is
    (subst (λ (o : Option ℕ). IfSome o (λ i. i ≡ index_of (map session_in c.self.inside.details.entries) c.args.name.now)) (sym c.get_index_of.ensures.index)
    (place_found c.args.name.now c.self.inside.details.entries))
