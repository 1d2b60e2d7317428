use Rattle.wi_parser.proofs.SymbolsOfTexts.{symbols_exactly}
use Rattle.wi_parser.proofs.laws.what_symbols_are.Goals as goal

pub returns : goal.returns
returns c = symbols_exactly
