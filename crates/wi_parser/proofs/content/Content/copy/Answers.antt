use Rattle.wi_parser.proofs.Words.{rules}
use Rattle.wi_parser.proofs.content.Content.copy.Goals as goal

pub returns-in_ok-copy-in-Formula : goal.returns-in_ok-copy-in-Formula
returns-in_ok-copy-in-Formula c = search rules
