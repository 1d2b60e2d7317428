use Rattle.wi_propagate.proofs.Words.{rules}
use Rattle.wi_propagate.proofs.keeping.KeepingMemo.is_full.Goals as goal

pub returns : goal.returns
returns c = search rules
