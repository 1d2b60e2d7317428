use Rattle.wi_sessions.proofs.Words.{[], sym, ap, ◌∙◌, Session, new_session, Roster, session_in}
use Rattle.wi_sessions.proofs.RosterLemmas.{part_at}
use Rattle.wi_sessions.proofs.sessions.Sessions.name.Goals as goal

pub returns : goal.returns
returns c =
    let there = rw c.unwrap.ensures at c.get_index.ensures.entry in
    c.as_str.ensures.value
    ∙ ap (λ (s : Session). s.name) (sym (part_at session_in c.self.inside.details.entries c.args.i c.unwrap.result.0.now c.unwrap.result.1.now c.args.self.now.sessions
    (sym there) (ap (λ (r : Roster). r.sessions) c.self.view_is) (new_session [])))
