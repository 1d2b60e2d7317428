use Rattle.wi_sessions.proofs.Words.{ap, Session}
use Rattle.wi_sessions.proofs.sessions.Sessions.seen.Goals as goal

pub returns : goal.returns
returns c = ap (λ (s : Session). s.seen) c.at.ensures
