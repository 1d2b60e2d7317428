use Rattle.wi_graph.proofs.Walks.{every_length, longest}
use Rattle.wi_graph.proofs.laws.circular_cells_begin_long_walks.Goals as goal

pub returns-clause-every_length : goal.returns-clause-every_length
returns-clause-every_length c = every_length

pub returns-clause-longest : goal.returns-clause-longest
returns-clause-longest c = longest
