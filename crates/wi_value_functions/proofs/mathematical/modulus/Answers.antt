use Rattle.wi_value_functions.proofs.Words.{rules}
use Rattle.wi_value_functions.proofs.mathematical.modulus.Goals as goal

pub returns-in_err-p : goal.returns-in_err-p
returns-in_err-p c = search rules

pub returns : goal.returns
returns c = search rules
