use Rattle.wi_sessions.proofs.Words.{ap, has_bit}
use Rattle.std.proofs.Common.{eqb-true, eq-eqb}
use Rattle.wi_sessions.proofs.BitLemmas.{same_words}
use Rattle.wi_sessions.proofs.bits.are_alike.Goals as goal

pub returns-clause-alike : goal.returns-clause-alike
returns-clause-alike c = λ e j. ap (has_bit j) (eqb-true c.args.a c.args.b e)

pub returns-clause-unlike : goal.returns-clause-unlike
returns-clause-unlike c = λ h. eq-eqb c.args.a c.args.b (same_words c.args.a c.args.b h)
