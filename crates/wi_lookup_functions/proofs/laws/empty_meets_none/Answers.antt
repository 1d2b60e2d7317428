use Rattle.wi_lookup_functions.specs.Inner.Laws as laws
use Rattle.wi_lookup_functions.proofs.laws.empty_meets_none.Goals as goal

pub returns : goal.returns
returns c = laws.empty_meets_none
