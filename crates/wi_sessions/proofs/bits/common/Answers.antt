use Rattle.wi_sessions.proofs.BitLemmas.{has_and}
use Rattle.wi_sessions.proofs.bits.common.Goals as goal

pub returns : goal.returns
returns c = λ j. has_and c.args.a c.args.b j
