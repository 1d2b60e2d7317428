use Rattle.wi_graph.proofs.Words.{not-true}
use Rattle.wi_graph.proofs.cone.are_alone.Goals as goal

pub returns-clause-unread : goal.returns-clause-unread
returns-clause-unread c = λ t. c.any_is_read.ensures.unread (not-true c.any_is_read.result t)
