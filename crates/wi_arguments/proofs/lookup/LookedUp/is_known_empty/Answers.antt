use Rattle.wi_arguments.proofs.lookup.LookedUp.is_known_empty.Goals as goal

pub returns-in-Missing : goal.returns-in-Missing
returns-in-Missing c = search c.in-Missing.is
