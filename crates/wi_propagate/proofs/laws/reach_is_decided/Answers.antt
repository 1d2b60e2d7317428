use Rattle.wi_propagate.proofs.Words.{reaches_true, true_reaches, in_cone_true, true_in_cone}
use Rattle.wi_propagate.proofs.laws.reach_is_decided.Goals as goal

pub returns-clause-reach : goal.returns-clause-reach
returns-clause-reach c = λ s a b. (reaches_true s a b, true_reaches s a b)

pub returns-clause-cone : goal.returns-clause-cone
returns-clause-cone c = λ s xs a. (in_cone_true s xs a, true_in_cone s xs a)
