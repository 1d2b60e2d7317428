use Rattle.wi_propagate.proofs.Words.{circular_same, value_same, others_do_not_count, reaching_suffices, same_for_reached, with_what_if_value}
use Rattle.wi_propagate.proofs.laws.value_is_local.Goals as goal

pub returns-clause-local : goal.returns-clause-local
returns-clause-local c = λ s t a h. (circular_same s t a h, value_same s t a h)

pub returns-clause-others : goal.returns-clause-others
returns-clause-others c = others_do_not_count

pub returns-clause-same : goal.returns-clause-same
returns-clause-same c = same_for_reached

pub returns-clause-reaching : goal.returns-clause-reaching
returns-clause-reaching c = reaching_suffices

pub returns-clause-what_if : goal.returns-clause-what_if
returns-clause-what_if c = with_what_if_value
