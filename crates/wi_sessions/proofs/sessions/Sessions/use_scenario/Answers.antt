use Rattle.wi_sessions.proofs.Words.{[], sym, ap, ◌∙◌, string_bytes, option_map, rc_str_bytes, index_map_len-with_value_at, Session, new_session, using_scenario, Roster, session_in}
use Rattle.wi_sessions.proofs.RosterLemmas.{entry_at, part_at, part_set}
use Rattle.wi_sessions.proofs.sessions.Sessions.use_scenario.Goals as goal

pub returns-clause-sessions : goal.returns-clause-sessions
returns-clause-sessions c =
    let items = c.self.inside.details.entries in
    let x = c.index_mut.result.now in
    let e = entry_at items c.args.i x c.index_mut.ensures.value in
    part_set session_in items c.args.i e.0 x c.args.self.now.sessions e.1 (ap (λ (r : Roster). r.sessions) c.self.view_is) c.use_scenario.new.self _
    (c.use_scenario.ensures (rc_str_bytes e.0)
    ∙ ap (λ (s : Session). using_scenario s (option_map string_bytes c.args.scenario))
    (sym (part_at session_in items c.args.i e.0 x c.args.self.now.sessions e.1 (ap (λ (r : Roster). r.sessions) c.self.view_is) (new_session []))))

pub returns-clause-pending : goal.returns-clause-pending
returns-clause-pending c = ap (λ (r : Roster). r.pending) c.self.view_is

pub returns-clause-vacant : goal.returns-clause-vacant
returns-clause-vacant c = ap (λ (r : Roster). r.vacant) c.self.view_is

pub invariant_of-self : goal.invariant_of-self
invariant_of-self c = c.self.invariant ∙ sym (index_map_len-with_value_at c.self.inside.details c.args.i _)
