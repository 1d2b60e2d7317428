use Rattle.wi_cli.proofs.Vocabulary.{rules}
use Rattle.wi_cli.proofs.ExitLemmas.{in_turn_not_begun, in_turn_new}
use Rattle.wi_cli.proofs.in_turn.run_new_in_turn.Goals as goal

pub returns-in_default-clause-runs : goal.returns-in_default-clause-runs
returns-in_default-clause-runs g c =
    in_turn_not_begun g.L.Source.remaining g.L.Source.has_failed g.R.Source.remaining g.R.Source.has_failed g.W.Sink.contents g.W.Sink.has_failed g.W.Sink.flushed _ _ _ _ c.new.ensures.outcome

pub returns-clause-runs : goal.returns-clause-runs
returns-clause-runs g c =
    in_turn_new g.L.Source.remaining g.L.Source.has_failed g.R.Source.remaining g.R.Source.has_failed g.W.Sink.contents g.W.Sink.has_failed g.W.Sink.flushed c.run_in_turn-outcome.result _ _ _ _ _ _ _ c.in-Ok.book.state _ (search rules) c.in-Ok.ensures c.run_in_turn-outcome.ensures.runs
