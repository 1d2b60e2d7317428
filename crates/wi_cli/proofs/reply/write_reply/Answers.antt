use Rattle.wi_cli.proofs.Vocabulary.{on_err_weaker}
use Rattle.wi_cli.proofs.TurnLemmas.{AppendsFront-append}
use Rattle.wi_cli.proofs.reply.write_reply.Goals as goal

pub returns-in_ok-write_all-in-Done-clause-err : goal.returns-in_ok-write_all-in-Done-clause-err
returns-in_ok-write_all-in-Done-clause-err g c =
    rw c.in-Done.is (on_err_weaker _ (AppendsFront-append _ _ _ c.args.records.now _ c.in_ok-write_all-in-Done.ensures.ok) c.write_all-in-Done.ensures.err)
