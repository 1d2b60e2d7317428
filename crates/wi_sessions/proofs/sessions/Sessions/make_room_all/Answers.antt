use Rattle.wi_sessions.proofs.Words.{◌||◌, ◌&&◌, ◌∙◌, ℕ, List, not, ap, length, on_ok_weaker, is_one_of, Roster, pending_of, vacant_of}
use Rattle.wi_sessions.proofs.RosterLemmas.{within_lists}
use Rattle.wi_sessions.proofs.sessions.Sessions.make_room_all.Goals as goal

pub returns-clause-sessions : goal.returns-clause-sessions
returns-clause-sessions c = ap (λ (r : Roster). r.sessions) c.self.view_is

pub returns-clause-pending : goal.returns-clause-pending
returns-clause-pending c = c.make_room_all.ensures.pending ∙ ap (λ (r : Roster). r.pending) c.self.view_is

pub returns-clause-room : goal.returns-clause-room
returns-clause-room c =
    on_ok_weaker c.make_room_all.result
    (λ h i q l. h i q (within_lists c.self.inside.details.entries c.self.inside.pending c.args.self.now i c.self.view_is c.self.invariant l)
    ∙ ap (λ (r : Roster). is_one_of (vacant_of r i) q || (is_one_of c.args.cells.now q && not (is_one_of (pending_of r i) q))) c.self.view_is)
    c.make_room_all.ensures.room

pub invariant_of-self : goal.invariant_of-self
invariant_of-self c = ap (λ (xss : List (List ℕ)). length xss) c.make_room_all.ensures.pending ∙ c.self.invariant

pub returns-clause-refused : goal.returns-clause-refused
returns-clause-refused c = c.make_room_all.ensures.refused
