use Rattle.wi_parser.proofs.ReadsBack.{printed_reads_back}
use Rattle.wi_parser.proofs.laws.printed_reads_back.Goals as goal

pub returns : goal.returns
returns c = printed_reads_back
