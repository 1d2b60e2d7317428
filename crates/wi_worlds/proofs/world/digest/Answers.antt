use Rattle.wi_worlds.proofs.Words.{rules, digest_of}
use Rattle.wi_worlds.proofs.world.digest.Goals as goal

pub returns : goal.returns
unfolding digest_of
returns c = search rules
