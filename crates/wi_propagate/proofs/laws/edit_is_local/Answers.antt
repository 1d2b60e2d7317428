use Rattle.wi_propagate.proofs.Words.{cone_stays, outside_content, outside_circular, outside_reaches, outside_shown_same, outside_shown, outside_unmoved}
use Rattle.wi_propagate.proofs.laws.edit_is_local.Goals as goal

pub returns-clause-cone : goal.returns-clause-cone
returns-clause-cone c = cone_stays

pub returns-clause-outside : goal.returns-clause-outside
returns-clause-outside c = λ s t edited a same out. (outside_content s t edited a same out, outside_circular s t edited a same out, λ p. outside_shown_same s t edited a p same out)

pub returns-clause-reach : goal.returns-clause-reach
returns-clause-reach c = outside_reaches

pub returns-clause-puts : goal.returns-clause-puts
returns-clause-puts c = outside_shown

pub returns-clause-unmoved : goal.returns-clause-unmoved
returns-clause-unmoved c = outside_unmoved
