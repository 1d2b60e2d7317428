use Rattle.wi_graph.proofs.Words.{sym, rules}
use Rattle.wi_graph.proofs.sets.without.Goals as goal

pub returns : goal.returns
returns c = rw (sym c.set.ensures, sym c.set-2.ensures) (search rules)
