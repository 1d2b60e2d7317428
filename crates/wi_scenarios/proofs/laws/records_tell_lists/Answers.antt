use Rattle.wi_scenarios.proofs.RecordLemmas.{records_tell_list}
use Rattle.wi_scenarios.proofs.laws.records_tell_lists.Goals as goal

pub returns : goal.returns
returns c = records_tell_list
