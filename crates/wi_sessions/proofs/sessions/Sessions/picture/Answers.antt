use Rattle.wi_sessions.proofs.Words.{ap, Session}
use Rattle.wi_sessions.proofs.sessions.Sessions.picture.Goals as goal

pub returns : goal.returns
returns c = ap (λ (s : Session). s.picture) c.at.ensures
