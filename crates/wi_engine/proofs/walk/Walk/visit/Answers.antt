use Rattle.wi_engine.proofs.walk.Walk.visit.Goals as goal

pub returns-clause-progress : goal.returns-clause-progress
returns-clause-progress c = λ f. search c.in_ok-insert.ensures.updates
