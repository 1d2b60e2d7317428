use Rattle.wi_scenarios.proofs.edit.PendingForAllWatch.has.Goals as goal

pub returns : goal.returns
returns c = c.all_have.ensures
