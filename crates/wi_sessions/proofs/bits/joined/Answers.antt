use Rattle.wi_sessions.proofs.BitLemmas.{has_or}
use Rattle.wi_sessions.proofs.bits.joined.Goals as goal

pub returns : goal.returns
returns c = λ j. has_or c.args.a c.args.b j
