use Rattle.wi_sessions.proofs.Words.{◌<◌, ◌^◌, rules}
use Rattle.wi_sessions.proofs.BitLemmas.{has_without}
use Rattle.wi_sessions.proofs.bits.without.Goals as goal

pub returns : goal.returns
returns c =
    let a : c.args.a < 2 ^ 64 = search rules in
    let b : c.args.b < 2 ^ 64 = search rules in
    λ j. has_without c.args.a c.args.b j a b
