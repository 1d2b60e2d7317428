use Rattle.std.proofs.Common.{rules}
use Rattle.wi_devices.proofs.write_to.WriteTo.new.Goals as goal

pub returns-clause-failed : goal.returns-clause-failed
returns-clause-failed g c = search rules
