use Rattle.wi_functions.proofs.Words.{map, refl, rules, what_if_leaf, pair_of, WhatIf}
use Rattle.wi_functions.proofs.Asking.{leaf_asks}
use Rattle.wi_functions.proofs.evaluation.what_if_value.Goals as goal

pub returns-in_ok-copy-in-Known : goal.returns-in_ok-copy-in-Known
returns-in_ok-copy-in-Known g c = search rules

pub returns-in_ok-from_slice-in-Missing : goal.returns-in_ok-from_slice-in-Missing
returns-in_ok-from_slice-in-Missing g c = record {
  asked = leaf_asks (what_if_leaf c.args.formula_cell (map pair_of c.args.pairs.now)) (WhatIf c.args.formula_cell.at c.in_ok-from_slice-in-Missing.field-0) (refl, search rules);
  unknown = search rules;
}
