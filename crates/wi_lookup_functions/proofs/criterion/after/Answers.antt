use Rattle.wi_lookup_functions.proofs.Signs.{rest_after}
use Rattle.wi_lookup_functions.proofs.criterion.after.Goals as goal

pub returns : goal.returns
returns c = rest_after _ _ _ c.strip_prefix.ensures.cases
