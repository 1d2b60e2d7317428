use Rattle.wi_value_functions.proofs.Words.{rules, chars_from_encodes}
use Rattle.wi_value_functions.proofs.text.characters.count.Goals as goal

pub returns : goal.returns
returns c = search (rules, chars_from_encodes)
