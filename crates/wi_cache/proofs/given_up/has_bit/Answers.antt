use Rattle.std.proofs.Common.{◌==◌, ap}
use Rattle.std.proofs.lemmas.Nat.Bits.{shr_and_one}
use Rattle.wi_cache.proofs.given_up.has_bit.Goals as goal

pub returns : goal.returns
returns c = ap (λ n. n == 1) (shr_and_one c.args.bits c.args.bit)
