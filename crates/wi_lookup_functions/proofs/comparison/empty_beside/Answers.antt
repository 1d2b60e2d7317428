use Rattle.wi_lookup_functions.proofs.comparison.empty_beside.Goals as goal

pub returns-in-Logical : goal.returns-in-Logical
returns-in-Logical c = search c.in-Logical.is
