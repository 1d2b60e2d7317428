use Rattle.wi_store.proofs.Words.{rules}
use Rattle.wi_store.proofs.store.Store.index_searched.Goals as goal

pub returns : goal.returns
returns c = search rules
