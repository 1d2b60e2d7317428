use Rattle.wi_sessions.proofs.Words.{arith, common_steps}
use Rattle.wi_sessions.proofs.sessions.Sessions.len.Goals as goal

pub returns : goal.returns
returns c = grind (arith, common_steps)
