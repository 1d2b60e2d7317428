use Rattle.wi_parser.proofs.Meanings.{what_tokens_mean}
use Rattle.wi_parser.proofs.laws.what_tokens_mean.Goals as goal

pub returns : goal.returns
returns c = what_tokens_mean
