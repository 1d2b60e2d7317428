use Rattle.wi_value_functions.proofs.Words.{rules}
use Rattle.wi_value_functions.proofs.Texts.{text_itself}
use Rattle.wi_value_functions.proofs.text.convert.to_text.Goals as goal

pub returns-in-Text : goal.returns-in-Text
returns-in-Text c = search (rules, text_itself)
