use Rattle.wi_cli.proofs.ExitLemmas.{not_begun, ends_new}
use Rattle.wi_cli.proofs.exit.run_new.Goals as goal

pub returns-in_default-clause-runs : goal.returns-in_default-clause-runs
returns-in_default-clause-runs g c = not_begun _ _ _ _ _ _ _ _ c.new.ensures.outcome

pub returns-clause-runs : goal.returns-clause-runs
returns-clause-runs g c = ends_new _ _ _ _ _ _ _ _ _ _ _ c.in-Ok.book.state _ c.new-2.ensures.outcome c.in-Ok.ensures c.run-outcome.ensures.runs
