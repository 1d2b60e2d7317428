use Rattle.wi_values.proofs.Words.{rules}
use Rattle.wi_values.proofs.import.words_value.Goals as goal

pub returns-then-text-gt-MAX_TEXT-clause-too_long : goal.returns-then-text-gt-MAX_TEXT-clause-too_long
returns-then-text-gt-MAX_TEXT-clause-too_long c = search rules
