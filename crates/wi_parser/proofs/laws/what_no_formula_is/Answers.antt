use Rattle.wi_parser.proofs.ContentsOfTexts.{no_formula_is_refused}
use Rattle.wi_parser.proofs.laws.what_no_formula_is.Goals as goal

pub returns : goal.returns
returns c = no_formula_is_refused
