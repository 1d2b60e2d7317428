use Rattle.wi_sessions.proofs.Words.{rules}
use Rattle.wi_sessions.proofs.picture.Picture.value.Goals as goal

pub returns : goal.returns
returns c = search rules
