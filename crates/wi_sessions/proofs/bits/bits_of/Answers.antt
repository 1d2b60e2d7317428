use Rattle.wi_sessions.proofs.BitLemmas.{has_ones, none_of_none}
use Rattle.wi_sessions.proofs.bits.bits_of.Goals as goal

pub returns-then-count-eq0 : goal.returns-then-count-eq0
returns-then-count-eq0 c = λ j. none_of_none c.args.count j c.if-count-eq0.true

pub returns : goal.returns
returns c = λ j. has_ones c.args.count j c.requires
