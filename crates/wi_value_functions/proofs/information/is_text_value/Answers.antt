use Rattle.wi_value_functions.proofs.Words.{rules}
use Rattle.wi_value_functions.proofs.information.is_text_value.Goals as goal

pub returns-in-Text : goal.returns-in-Text
returns-in-Text c = search rules
