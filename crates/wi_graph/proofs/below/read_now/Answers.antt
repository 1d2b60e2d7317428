use Rattle.wi_graph.proofs.Words.{has_visited}
use Rattle.wi_graph.proofs.BelowSteps.{none_found, none_visited}
use Rattle.wi_graph.proofs.below.read_now.Goals as goal

pub returns-in-None : goal.returns-in-None
returns-in-None c = λ known s. none_found c.args.rooms.now c.args.cell known (has_visited c.new.result) (none_visited c.new.result c.new.ensures)
