use Rattle.wi_store.proofs.Words.{rules}
use Rattle.wi_store.proofs.contents.ContentsIterator.next.Goals as goal

pub returns-clause-steps : goal.returns-clause-steps
returns-clause-steps c = search rules
