use Rattle.wi_store.proofs.Words.{rules}
use Rattle.wi_store.proofs.store.Store.limits.Goals as goal

pub returns : goal.returns
returns c = search rules
