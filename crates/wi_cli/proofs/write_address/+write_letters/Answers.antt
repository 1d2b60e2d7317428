use Rattle.wi_cli.proofs.Vocabulary.{sym, on_ok_weaker, on_err_weaker, err_from_is_err_and}
use Rattle.wi_cli.proofs.AddressLemmas.{letters_none, letters_front, letters_last, letters_cut}
use Rattle.wi_cli.proofs.write_address.+write_letters.Goals as goal

pub returns-then-is_written-clause-ok : goal.returns-then-is_written-clause-ok
returns-then-is_written-clause-ok g t c =
    letters_none _ c.args.most c.args.number (sym (rw c.if-is_written.true at c.is_written.ensures))

pub returns-in_err-write_letters-clause-err : goal.returns-in_err-write_letters-clause-err
returns-in_err-write_letters-clause-err g t c =
    let p = err_from_is_err_and c.from_residual.result c.from_residual.ensures.1 in
    rw p.1 (letters_front _ _ c.args.most c.args.number (sym (rw c.if-is_written.false at c.is_written.ensures)) c.in_err-write_letters.ensures.err)

pub returns-clause-ok : goal.returns-clause-ok
returns-clause-ok g t c =
    on_ok_weaker _ (letters_last _ _ _ c.args.most c.args.number (sym (rw c.if-is_written.false at c.is_written.ensures)) c.in_ok-write_letters.ensures.ok) c.write_all.ensures.ok

pub returns-clause-err : goal.returns-clause-err
returns-clause-err g t c =
    on_err_weaker _ (letters_cut _ _ _ c.args.most c.args.number (sym (rw c.if-is_written.false at c.is_written.ensures)) c.in_ok-write_letters.ensures.ok) c.write_all.ensures.err
