use Rattle.wi_parser.proofs.Words.{starts_with_of_eq}
use Rattle.wi_parser.proofs.PrintLemmas.{starts_on}
use Rattle.wi_parser.proofs.print.push_formula.Goals as goal

pub returns-clause-kept : goal.returns-clause-kept
returns-clause-kept c = starts_on _ _ _ _ c.in_ok-push_str.ensures.bytes c.push_tree.ensures.kept

pub returns-in_err-push_str-clause-kept : goal.returns-in_err-push_str-clause-kept
returns-in_err-push_str-clause-kept c = starts_with_of_eq _ _ c.in_err-push_str.ensures.bytes
