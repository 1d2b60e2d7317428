use Rattle.wi_sessions.proofs.Words.{ap, ◌==◌, shr_and_one}
use Rattle.wi_sessions.proofs.bits.has.Goals as goal

pub returns : goal.returns
returns c = ap (λ n. n == 1) (shr_and_one c.args.word c.args.i)
