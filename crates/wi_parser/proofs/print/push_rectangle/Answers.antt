use Rattle.wi_parser.proofs.Words.{arith, starts_with_of_eq, starts_with_trans, common_steps}
use Rattle.wi_parser.proofs.PrintLemmas.{starts_same, starts_on, starts_pushed}
use Rattle.wi_parser.proofs.print.push_rectangle.Goals as goal

pub returns-in_err-push_str-clause-kept : goal.returns-in_err-push_str-clause-kept
returns-in_err-push_str-clause-kept c = starts_with_of_eq _ _ c.in_err-push_str.ensures.bytes

pub returns-in_err-push_cell-clause-kept : goal.returns-in_err-push_cell-clause-kept
returns-in_err-push_cell-clause-kept c = starts_on _ _ _ _ c.in_ok-push_str.ensures.bytes c.in_err-push_cell.ensures.kept

pub returns-in_err-push_str-2-clause-kept : goal.returns-in_err-push_str-2-clause-kept
returns-in_err-push_str-2-clause-kept c = starts_same _ _ _ c.in_err-push_str-2.ensures.bytes (starts_on _ _ _ _ c.in_ok-push_str.ensures.bytes c.in_ok-push_cell.ensures.kept)

pub returns-in_err-push_cell-2-clause-kept : goal.returns-in_err-push_cell-2-clause-kept
returns-in_err-push_cell-2-clause-kept c =
    starts_on _ _ _ _ c.in_ok-push_str.ensures.bytes
    (starts_with_trans _ _ _ (starts_on _ _ _ _ c.in_ok-push_str-2.ensures.bytes c.in_err-push_cell-2.ensures.kept) c.in_ok-push_cell.ensures.kept)

pub returns-clause-kept : goal.returns-clause-kept
returns-clause-kept c =
    starts_pushed c.push_str-3.result _ _ _ _ c.push_str-3.ensures.bytes
    (starts_on _ _ _ _ c.in_ok-push_str.ensures.bytes
    (starts_with_trans _ _ _ (starts_on _ _ _ _ c.in_ok-push_str-2.ensures.bytes c.in_ok-push_cell-2.ensures.kept) c.in_ok-push_cell.ensures.kept))

pub returns-clause-ok : goal.returns-clause-ok
returns-clause-ok c = grind (arith, common_steps)
