use Rattle.wi_parser.proofs.Parses.{parsed_exactly}
use Rattle.wi_parser.proofs.laws.what_a_text_is.Goals as goal

pub returns : goal.returns
returns c = parsed_exactly
