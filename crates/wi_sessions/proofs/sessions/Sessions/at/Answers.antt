use Rattle.wi_sessions.proofs.Words.{◌<◌, ℕ, length, [], sym, ap, subst, ◌∙◌, length-map, Session, new_session, Roster, session_in, with_name}
use Rattle.wi_sessions.proofs.RosterLemmas.{entry_at, part_at}
use Rattle.wi_sessions.proofs.sessions.Sessions.at.Goals as goal

pub returns : goal.returns
returns c =
    let items = c.self.inside.details.entries in
    let x = c.index.result.now in
    let e = entry_at items c.args.i x c.index.ensures in
    let there = part_at session_in items c.args.i e.0 x c.args.self.now.sessions e.1 (ap (λ (r : Roster). r.sessions) c.self.view_is) (new_session []) in
    ap (λ (s : Session). with_name s.name x) there ∙ sym there

pub index-requires : goal.index-requires
index-requires c =
    subst (λ (n : ℕ). c.args.i < n) (ap (λ (r : Roster). length r.sessions) (sym c.self.view_is) ∙ length-map c.self.inside.details.entries session_in) c.requires
