use Rattle.wi_store.proofs.Words.{rules}
use Rattle.wi_store.proofs.store.Store.forget_indexes.Goals as goal

pub returns : goal.returns
returns c = search rules
