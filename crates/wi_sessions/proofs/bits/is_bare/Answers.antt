use Rattle.wi_sessions.proofs.Words.{ap, ◌∙◌, has_bit}
use Rattle.std.proofs.Common.{eqb-true}
use Rattle.wi_sessions.proofs.BitLemmas.{none_in_zero}
use Rattle.wi_sessions.proofs.bits.is_bare.Goals as goal

pub returns : goal.returns
returns c = λ e j. ap (has_bit j) (eqb-true c.args.word 0 e) ∙ none_in_zero j
