use Rattle.wi_values.proofs.Words.{rules}
use Rattle.wi_values.proofs.import.field_value.Goals as goal

pub returns-then-is_empty-clause-value : goal.returns-then-is_empty-clause-value
returns-then-is_empty-clause-value c = search rules

pub returns-then-is_empty-clause-too_long : goal.returns-then-is_empty-clause-too_long
returns-then-is_empty-clause-too_long c = search rules
