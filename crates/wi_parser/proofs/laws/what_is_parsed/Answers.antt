use Rattle.wi_parser.proofs.ContentsOfTexts.{parsed_is_one}
use Rattle.wi_parser.proofs.laws.what_is_parsed.Goals as goal

pub returns : goal.returns
returns c = parsed_is_one
