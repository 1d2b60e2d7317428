use Rattle.wi_engine.proofs.Words.{refl, rules}
use Rattle.wi_engine.proofs.engine.Steps.{steps_emptied, steps_replaced}
use Rattle.wi_engine.proofs.engine.resolve.Goals as goal

pub returns-in-Cells-clause-steps : goal.returns-in-Cells-clause-steps
returns-in-Cells-clause-steps g c = steps_replaced refl refl (search rules) c.resolve_cells.ensures.steps

pub returns-in-WhatIf-clause-steps : goal.returns-in-WhatIf-clause-steps
returns-in-WhatIf-clause-steps g c = steps_replaced refl refl (search rules) c.resolve_what_if.ensures.steps

pub returns-in-Nothing-clause-steps : goal.returns-in-Nothing-clause-steps
returns-in-Nothing-clause-steps g c = steps_emptied c.requires.frame refl refl refl refl (search rules) (search rules)
