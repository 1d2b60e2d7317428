use Rattle.std.proofs.Common.{rules}
use Rattle.wi_devices.proofs.write_to.WriteToSink.flush.Goals as goal

pub returns-in-Ok-clause-sent : goal.returns-in-Ok-clause-sent
returns-in-Ok-clause-sent g c = search rules
