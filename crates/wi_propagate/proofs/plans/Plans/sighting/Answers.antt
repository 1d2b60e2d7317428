use Rattle.wi_propagate.proofs.plans.Plans.sighting.Goals as goal

pub returns-then-pays-clause-plans : goal.returns-then-pays-clause-plans
returns-then-pays-clause-plans g c = λ old. c.add.ensures c.args.store.now.sheet (rw c.evaluations_at_last.ensures old) (rw c.in-Ok-Some.field-0-is at c.in-Ok-Some.ensures.plan)
