use Rattle.wi_import.proofs.ImportLemmas.{some_import, no_other}
use Rattle.wi_import.proofs.laws.one_import.Goals as goal

pub returns-clause-some : goal.returns-clause-some
returns-clause-some c = some_import

pub returns-clause-no_other : goal.returns-clause-no_other
returns-clause-no_other c = no_other
