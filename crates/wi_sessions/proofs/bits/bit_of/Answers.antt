use Rattle.wi_sessions.proofs.BitLemmas.{has_shifted}
use Rattle.wi_sessions.proofs.bits.bit_of.Goals as goal

pub returns : goal.returns
returns c = λ j. has_shifted c.args.i j c.requires
