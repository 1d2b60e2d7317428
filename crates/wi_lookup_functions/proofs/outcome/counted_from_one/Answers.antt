use Rattle.wi_lookup_functions.proofs.Words.{ap, ◌∙◌, arith, whole_value}
use Rattle.wi_lookup_functions.proofs.outcome.counted_from_one.Goals as goal

pub returns : goal.returns
returns c = c.whole_value.ensures ∙ ap whole_value (omega arith)
