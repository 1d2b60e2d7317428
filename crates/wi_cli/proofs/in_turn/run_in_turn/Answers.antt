use Rattle.wi_cli.proofs.Vocabulary.{Ok, rules, err_from_is_err_and}
use Rattle.wi_cli.proofs.ExitLemmas.{in_turn_stopped}
use Rattle.wi_cli.proofs.in_turn.run_in_turn.Goals as goal

pub returns-in_err-run : goal.returns-in_err-run
returns-in_err-run g c =
    let p = err_from_is_err_and c.from_residual.result c.from_residual.ensures.1 in
    rw (p.1, p.2) (record { runs = in_turn_stopped g.L.Source.remaining g.L.Source.has_failed g.R.Source.remaining g.R.Source.has_failed g.W.Sink.contents g.W.Sink.has_failed g.W.Sink.flushed _ _ _ _ _ _ _ _ _ (search rules) (search rules) })

pub returns : goal.returns
returns g c = record { runs = record { first = Ok tt; between = c.run.new.writer; mid = c.run.new.book.state; is_run = search rules; goes_on = search rules } }
