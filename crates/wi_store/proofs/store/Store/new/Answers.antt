use Rattle.wi_store.proofs.Words.{rules}
use Rattle.wi_store.proofs.RoomLemmas.{none_at_all}
use Rattle.wi_store.proofs.store.Store.new.Goals as goal

pub returns-clause-edits : goal.returns-clause-edits
returns-clause-edits c = search rules

pub invariant_of-result : goal.invariant_of-result
invariant_of-result c = (none_at_all c.new.result.entries c.new.ensures, c.new-2.ensures _)
