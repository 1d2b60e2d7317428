use Rattle.wi_engine.proofs.Words.{rules}
use Rattle.wi_engine.proofs.scan.Scan.led_on.Goals as goal

pub returns-clause-grows : goal.returns-clause-grows
returns-clause-grows c = search rules
