use Rattle.wi_sessions.proofs.Words.{◌||◌, ◌&&◌, ◌∙◌, ℕ, List, not, ap, length, on_ok_weaker, is_one_of, Roster, pending_of, vacant_of}
use Rattle.wi_sessions.proofs.RosterLemmas.{within_lists}
use Rattle.wi_sessions.proofs.sessions.Sessions.make_room.Goals as goal

pub make_room-requires : goal.make_room-requires
make_room-requires c = within_lists c.self.inside.details.entries c.self.inside.pending c.args.self.now c.args.i c.self.view_is c.self.invariant c.requires

pub returns-clause-sessions : goal.returns-clause-sessions
returns-clause-sessions c = ap (λ (r : Roster). r.sessions) c.self.view_is

pub returns-clause-pending : goal.returns-clause-pending
returns-clause-pending c = c.make_room.ensures.lists ∙ ap (λ (r : Roster). r.pending) c.self.view_is

pub returns-clause-room : goal.returns-clause-room
returns-clause-room c =
    on_ok_weaker c.make_room.result
    (λ h q. h q ∙ ap (λ (r : Roster). is_one_of (vacant_of r c.args.i) q || (is_one_of c.args.cells.now q && not (is_one_of (pending_of r c.args.i) q))) c.self.view_is)
    c.make_room.ensures.room

pub returns-clause-others : goal.returns-clause-others
returns-clause-others c = λ j apart. c.make_room.ensures.others j apart ∙ ap (λ (r : Roster). vacant_of r j) c.self.view_is

pub invariant_of-self : goal.invariant_of-self
invariant_of-self c = ap (λ (xss : List (List ℕ)). length xss) c.make_room.ensures.lists ∙ c.self.invariant
