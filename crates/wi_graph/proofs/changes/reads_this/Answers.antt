use Rattle.wi_graph.proofs.Words.{◌≡◌, List, Option, rules, ap, sym, subst, Decides, Area, items_of, in_room}
use Rattle.wi_graph.proofs.ChangeSteps.{no_room, same_room}
use Rattle.wi_graph.proofs.changes.reads_this.Goals as goal

pub returns-in-Some : goal.returns-in-Some
returns-in-Some c = subst (λ (o : Option (List Area)). Decides c.eq.result (items_of c.args.room.now ≡ o)) (ap in_room c.in-Some.ensures) (same_room c.eq.result c.args.room.now c.in-Some.stood.now c.eq.ensures)

pub returns-in-None : goal.returns-in-None
returns-in-None c = no_room c.args.rooms.now c.args.cell _ c.args.room.now (sym c.in-None.ensures) (search rules)
