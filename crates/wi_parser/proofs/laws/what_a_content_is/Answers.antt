use Rattle.wi_parser.proofs.ContentsOfTexts.{content_is_one}
use Rattle.wi_parser.proofs.laws.what_a_content_is.Goals as goal

pub returns : goal.returns
returns c = content_is_one
