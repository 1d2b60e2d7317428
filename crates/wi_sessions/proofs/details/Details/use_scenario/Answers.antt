use Rattle.wi_sessions.proofs.Words.{rules}
use Rattle.wi_sessions.proofs.details.Details.use_scenario.Goals as goal

pub returns : goal.returns
returns c = search rules
