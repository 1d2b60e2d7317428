use Rattle.wi_sessions.proofs.picture.same.Goals as goal

pub returns : goal.returns
returns c = c.eq.ensures
