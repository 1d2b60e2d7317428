use Rattle.wi_store.proofs.Words.{rules}
use Rattle.wi_store.proofs.limits.Limits.admit.Goals as goal

pub returns-then-cells-self : goal.returns-then-cells-self
returns-then-cells-self c = search rules
