use Rattle.wi_parser.proofs.ReadsBack.{printed_symbols}
use Rattle.wi_parser.proofs.laws.printed_symbols.Goals as goal

pub returns : goal.returns
returns c = printed_symbols
