use Rattle.wi_propagate.proofs.Words.{rules}
use Rattle.wi_propagate.proofs.keeping.KeepingMemo.look.Goals as goal

pub returns-in-None-clause-value : goal.returns-in-None-clause-value
returns-in-None-clause-value c = search rules

pub returns-in-None-clause-unfound : goal.returns-in-None-clause-unfound
returns-in-None-clause-unfound c = search rules
