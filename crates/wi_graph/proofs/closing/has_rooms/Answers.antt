use Rattle.wi_graph.proofs.Words.{◌∙◌, is_some, ap, keys_of}
use Rattle.wi_graph.proofs.ClosingSteps.{has_rooms_is}
use Rattle.wi_graph.proofs.closing.has_rooms.Goals as goal

pub returns : goal.returns
returns c = c.is_some.ensures ∙ ap is_some (rw c.first.ensures at c.next_in.ensures) ∙ has_rooms_is c.args.area (keys_of c.args.rooms.now.entries)
