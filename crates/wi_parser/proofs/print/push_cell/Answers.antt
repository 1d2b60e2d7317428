use Rattle.wi_parser.proofs.Words.{arith, common_steps}
use Rattle.wi_parser.proofs.print.push_cell.Goals as goal

pub returns-in_err-push_str-clause-kept : goal.returns-in_err-push_str-clause-kept
returns-in_err-push_str-clause-kept c = grind (arith, common_steps)

pub returns-in_err-push_column-clause-kept : goal.returns-in_err-push_column-clause-kept
returns-in_err-push_column-clause-kept c = grind (arith, common_steps)

pub returns-in_err-push_str-2-clause-kept : goal.returns-in_err-push_str-2-clause-kept
returns-in_err-push_str-2-clause-kept c = grind (arith, common_steps)

pub returns-clause-kept : goal.returns-clause-kept
returns-clause-kept c = grind (arith, common_steps)

pub returns-clause-ok : goal.returns-clause-ok
returns-clause-ok c = grind (arith, common_steps)
