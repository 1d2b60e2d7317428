use Rattle.wi_cli.proofs.Vocabulary.{on_ok_weaker, on_err_weaker, err_from_is_err_and, Appends-trans, address_text, letters_of_column}
use Rattle.wi_cli.proofs.TurnLemmas.{AppendsFront-append, AppendsFront-of}
use Rattle.wi_cli.proofs.write_address.write_address.Goals as goal

pub returns-in_err-write_letters-clause-err : goal.returns-in_err-write_letters-clause-err
unfolding address_text
returns-in_err-write_letters-clause-err g c =
    let p = err_from_is_err_and c.from_residual.result c.from_residual.ensures.1 in
    rw (p.1, ← c.column.ensures.value, ← letters_of_column c.column.result) (AppendsFront-of _ _ _ _ c.in_err-write_letters.ensures.err)

pub returns-clause-ok : goal.returns-clause-ok
unfolding address_text
returns-clause-ok g c =
    rw (← c.column.ensures.value, ← letters_of_column c.column.result, ← c.row.ensures.value)
    (on_ok_weaker _ (Appends-trans _ _ _ _ _ c.in_ok-write_letters.ensures.ok) (rw (c.as_bytes.ensures.value, c.format.ensures.text) at c.write_all.ensures.ok))

pub returns-clause-err : goal.returns-clause-err
unfolding address_text
returns-clause-err g c =
    rw (← c.column.ensures.value, ← letters_of_column c.column.result, ← c.row.ensures.value)
    (on_err_weaker _ (AppendsFront-append _ _ _ _ _ c.in_ok-write_letters.ensures.ok) (rw (c.as_bytes.ensures.value, c.format.ensures.text) at c.write_all.ensures.err))
