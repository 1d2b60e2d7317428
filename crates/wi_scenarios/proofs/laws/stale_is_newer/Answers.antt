use Rattle.wi_scenarios.proofs.RunLemmas.{log_grows}
use Rattle.wi_scenarios.proofs.StaleLemmas.{stale_is_newer, forced_is_not_stale}
use Rattle.wi_scenarios.proofs.laws.stale_is_newer.Goals as goal

pub returns-clause-log : goal.returns-clause-log
returns-clause-log c = log_grows

pub returns-clause-stale : goal.returns-clause-stale
returns-clause-stale c = stale_is_newer

pub returns-clause-forced : goal.returns-clause-forced
returns-clause-forced c = forced_is_not_stale
