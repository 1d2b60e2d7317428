use Rattle.wi_sessions.proofs.Words.{◌≡◌, subst, IfOk, OnOk, sheet_size, Rises, Roster, pending_of, ◌∙◌, ap, vacant_of}
use Rattle.wi_sessions.proofs.RosterLemmas.{within_lists}
use Rattle.wi_sessions.proofs.NoneLemmas.{nil_both, ok_where_not}
use Rattle.wi_sessions.proofs.sessions.Sessions.pending_cells.Goals as goal

pub cells-requires : goal.cells-requires
cells-requires c = within_lists c.self.inside.details.entries c.self.inside.pending c.args.self.now c.args.i c.self.view_is c.self.invariant c.requires

pub returns-clause-list : goal.returns-clause-list
returns-clause-list c = subst (λ (r : Roster). IfOk c.cells.result (λ found. found.items ≡ pending_of r c.args.i)) c.self.view_is c.cells.ensures.list

pub returns-clause-order : goal.returns-clause-order
returns-clause-order c = subst (λ (r : Roster). OnOk c.cells.result (Rises 0 sheet_size (pending_of r c.args.i))) c.self.view_is c.cells.ensures.order

pub returns-clause-none : goal.returns-clause-none
returns-clause-none c =
    λ none bare. ok_where_not c.cells.result c.cells.ensures.some
    (λ some. some (nil_both _ _ (ap (λ (r : Roster). pending_of r c.args.i) c.self.view_is ∙ none) (ap (λ (r : Roster). vacant_of r c.args.i) c.self.view_is ∙ bare)))
