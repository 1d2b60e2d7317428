use Rattle.wi_graph.proofs.Words.{rules}
use Rattle.wi_graph.proofs.ClosingSteps.{one_stands_apart}
use Rattle.wi_graph.proofs.closing.stands_apart.Goals as goal

pub returns : goal.returns
returns c = λ t. one_stands_apart c.args.rooms.now c.args.next.now c.args.cyclic.now c.index-next-0.result (search rules) (search rules) (c.is_apart.ensures.open_cell t) (c.is_apart.ensures.reads t)
