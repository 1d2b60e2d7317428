use Rattle.wi_parser.proofs.ContentsOfTexts.{formula_symbols_exactly}
use Rattle.wi_parser.proofs.laws.what_formula_symbols_are.Goals as goal

pub returns : goal.returns
returns c = formula_symbols_exactly
