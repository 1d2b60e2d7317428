use Rattle.wi_propagate.proofs.Words.{reaching_in_order, what_if_in_order, rests_stay}
use Rattle.wi_propagate.proofs.laws.replacements_are_local.Goals as goal

pub returns-clause-order : goal.returns-clause-order
returns-clause-order c = λ s w h. (λ a. reaching_in_order s a w h, λ pairs. what_if_in_order s w pairs h)

pub returns-clause-rests : goal.returns-clause-rests
returns-clause-rests c = rests_stay
