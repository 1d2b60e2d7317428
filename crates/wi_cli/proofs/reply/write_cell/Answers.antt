use Rattle.wi_cli.proofs.Vocabulary.{on_err_weaker}
use Rattle.wi_cli.proofs.TurnLemmas.{AppendsFront-append}
use Rattle.wi_cli.proofs.reply.write_cell.Goals as goal

pub returns-in_ok-write_all-in-Stale-clause-err : goal.returns-in_ok-write_all-in-Stale-clause-err
returns-in_ok-write_all-in-Stale-clause-err g c =
    rw c.in-Stale.is (on_err_weaker _ (AppendsFront-append _ _ _ _ _ c.in_ok-write_all-in-Stale.ensures.ok) c.write_address.ensures.err)
