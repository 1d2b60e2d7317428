use Rattle.wi_graph.proofs.LatestLaws.{edit_owes, none_is_dirty, dirty_stays, flushing_begins, flushes_one}
use Rattle.wi_graph.proofs.laws.latest_may_be_dirty.Goals as goal

pub returns-clause-edit : goal.returns-clause-edit
returns-clause-edit c = edit_owes

pub returns-clause-none : goal.returns-clause-none
returns-clause-none c = none_is_dirty

pub returns-clause-flushes : goal.returns-clause-flushes
returns-clause-flushes c = flushes_one

pub returns-clause-stays : goal.returns-clause-stays
returns-clause-stays c = dirty_stays

pub returns-clause-begins : goal.returns-clause-begins
returns-clause-begins c = flushing_begins
