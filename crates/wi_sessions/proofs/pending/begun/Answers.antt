use Rattle.wi_sessions.proofs.pending.begun.Goals as goal

pub returns-clause-own : goal.returns-clause-own
returns-clause-own c = c.in_ok-track.ensures.own
