use Rattle.wi_scenarios.proofs.Words.{◌∙◌}
use Rattle.wi_scenarios.proofs.changes.tell.Goals as goal

pub returns-in_err-push_changes-clause-none : goal.returns-in_err-push_changes-clause-none
returns-in_err-push_changes-clause-none c = λ none bare untold. absurd (c.in_err-push_changes.ensures.some (c.deref.ensures.value ∙ untold))

pub returns-then-is_err-clause-none : goal.returns-then-is_err-clause-none
returns-then-is_err-clause-none c = c.tell-told.ensures.none

pub returns-else-is_err-clause-none : goal.returns-else-is_err-clause-none
returns-else-is_err-clause-none c = c.tell-told.ensures.none
