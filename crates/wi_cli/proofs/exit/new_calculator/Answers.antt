use Rattle.wi_cli.proofs.Vocabulary.{rules}
use Rattle.wi_cli.proofs.ExitLemmas.{is_standard}
use Rattle.wi_cli.proofs.exit.new_calculator.Goals as goal

pub returns-clause-stored : goal.returns-clause-stored
returns-clause-stored c = is_standard c.new.result _ c.new.ensures.stored (search rules) (search rules)
