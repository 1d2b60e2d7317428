use Rattle.wi_parser.proofs.Words.{starts_with_of_eq, starts_with_trans}
use Rattle.wi_parser.proofs.PrintLemmas.{starts_on, starts_pushed, what_if_written}
use Rattle.wi_parser.proofs.print.push_what_if.Goals as goal

pub returns-clause-ok : goal.returns-clause-ok
returns-clause-ok c =
    what_if_written c.push_str-2.result c.args.formula_cell c.args.pairs.now _ _ _ _ _
    c.in_ok-push_str.ensures.bytes c.in_ok-push_reference.ensures.ok c.in_ok-push_pairs.ensures.ok c.push_str-2.ensures.bytes

pub returns-in_err-push_str-clause-kept : goal.returns-in_err-push_str-clause-kept
returns-in_err-push_str-clause-kept c = starts_with_of_eq _ _ c.in_err-push_str.ensures.bytes

pub returns-in_err-push_reference-clause-kept : goal.returns-in_err-push_reference-clause-kept
returns-in_err-push_reference-clause-kept c = starts_on _ _ _ _ c.in_ok-push_str.ensures.bytes c.in_err-push_reference.ensures.kept

pub returns-in_err-push_pairs-clause-kept : goal.returns-in_err-push_pairs-clause-kept
returns-in_err-push_pairs-clause-kept c = starts_on _ _ _ _ c.in_ok-push_str.ensures.bytes (starts_with_trans _ _ _ c.in_err-push_pairs.ensures.kept c.in_ok-push_reference.ensures.kept)

pub returns-clause-kept : goal.returns-clause-kept
returns-clause-kept c =
    starts_pushed c.push_str-2.result _ _ _ _ c.push_str-2.ensures.bytes
    (starts_on _ _ _ _ c.in_ok-push_str.ensures.bytes (starts_with_trans _ _ _ c.in_ok-push_pairs.ensures.kept c.in_ok-push_reference.ensures.kept))
