use Rattle.wi_sessions.proofs.Words.{ap, Session}
use Rattle.wi_sessions.proofs.sessions.Sessions.scenario.Goals as goal

pub returns-in-Some : goal.returns-in-Some
returns-in-Some c =
    let told = ap (λ (s : Session). s.scenario) c.at.ensures in
    let there = rw c.in-Some.is at told in
    cc
