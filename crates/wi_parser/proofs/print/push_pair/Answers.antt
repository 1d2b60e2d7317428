use Rattle.wi_parser.proofs.Words.{arith, starts_with_of_eq, starts_with_trans, common_steps}
use Rattle.wi_parser.proofs.PrintLemmas.{starts_same, starts_on}
use Rattle.wi_parser.proofs.print.push_pair.Goals as goal

pub returns-in_err-push_reference-clause-kept : goal.returns-in_err-push_reference-clause-kept
returns-in_err-push_reference-clause-kept c = starts_on _ _ _ _ c.in_ok-push_str.ensures.bytes c.in_err-push_reference.ensures.kept

pub returns-in_err-push_str-2-clause-kept : goal.returns-in_err-push_str-2-clause-kept
returns-in_err-push_str-2-clause-kept c = starts_same _ _ _ c.in_err-push_str-2.ensures.bytes (starts_on _ _ _ _ c.in_ok-push_str.ensures.bytes c.in_ok-push_reference.ensures.kept)

pub returns-clause-kept : goal.returns-clause-kept
returns-clause-kept c =
    starts_on _ _ _ _ c.in_ok-push_str.ensures.bytes
    (starts_with_trans _ _ _ (starts_on _ _ _ _ c.in_ok-push_str-2.ensures.bytes c.push_reference-2.ensures.kept) c.in_ok-push_reference.ensures.kept)

pub returns-in_err-push_str-clause-kept : goal.returns-in_err-push_str-clause-kept
returns-in_err-push_str-clause-kept c = starts_with_of_eq _ _ c.in_err-push_str.ensures.bytes

pub returns-clause-ok : goal.returns-clause-ok
returns-clause-ok c = grind (arith, common_steps)
