use Rattle.wi_engine.proofs.Words.{rules}
use Rattle.wi_engine.proofs.remembered.RememberedMemo.look.Goals as goal

pub returns-clause-value : goal.returns-clause-value
returns-clause-value c = search rules

pub returns-clause-unfound : goal.returns-clause-unfound
returns-clause-unfound c = search rules
