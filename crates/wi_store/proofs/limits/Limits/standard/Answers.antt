use Rattle.wi_store.proofs.Words.{rules}
use Rattle.wi_store.proofs.limits.Limits.standard.Goals as goal

pub returns-clause-cells : goal.returns-clause-cells
returns-clause-cells c = search rules
