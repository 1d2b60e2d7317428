use Rattle.wi_propagate.proofs.Words.{put_all, bound_not_felt, value_step, put_not_circular}
use Rattle.wi_propagate.proofs.laws.value_by_step.Goals as goal

pub returns-clause-bound : goal.returns-clause-bound
returns-clause-bound c = λ s a k. bound_not_felt k s a

pub returns-clause-step : goal.returns-clause-step
returns-clause-step c = λ s p a t h e. value_step (put_all s p) a t (put_not_circular s p a h) e
