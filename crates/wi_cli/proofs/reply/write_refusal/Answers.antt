use Rattle.wi_cli.proofs.Vocabulary.{codes, on_ok_weaker, on_err_weaker, err_from_is_err_and, Appends-trans, refused, refused_cell}
use Rattle.wi_cli.proofs.TurnLemmas.{AppendsFront-append, AppendsFront-of}
use Rattle.wi_cli.proofs.reply.write_refusal.Goals as goal

pub returns-in_err-write_code-clause-err : goal.returns-in_err-write_code-clause-err
unfolding refused
returns-in_err-write_code-clause-err g c =
    let p = err_from_is_err_and c.from_residual.result c.from_residual.ensures.1 in
    rw (p.1, ← c.code.ensures) (AppendsFront-of _ _ _ (codes "\n") (AppendsFront-of _ _ _ (refused_cell c.args.refusal.now) c.in_err-write_code.ensures.err))

pub returns-in_err-write_cell-clause-err : goal.returns-in_err-write_cell-clause-err
unfolding refused
returns-in_err-write_cell-clause-err g c =
    let p = err_from_is_err_and c.from_residual-in_err-write_cell.result c.from_residual-in_err-write_cell.ensures.1 in
    rw (p.1, ← c.code.ensures) (AppendsFront-of _ _ _ (codes "\n") (AppendsFront-append _ _ _ _ _ c.in_ok-write_code.ensures.ok c.in_err-write_cell.ensures.err))

pub returns-clause-ok : goal.returns-clause-ok
unfolding refused
returns-clause-ok g c =
    rw (← c.code.ensures)
    (on_ok_weaker _ (Appends-trans _ _ _ _ _ (Appends-trans _ _ _ _ _ c.in_ok-write_code.ensures.ok c.in_ok-write_cell.ensures.ok)) c.write_all.ensures.ok)

pub returns-clause-err : goal.returns-clause-err
unfolding refused
returns-clause-err g c =
    rw (← c.code.ensures)
    (on_err_weaker _ (AppendsFront-append _ _ _ _ _ (Appends-trans _ _ _ _ _ c.in_ok-write_code.ensures.ok c.in_ok-write_cell.ensures.ok)) c.write_all.ensures.err)
