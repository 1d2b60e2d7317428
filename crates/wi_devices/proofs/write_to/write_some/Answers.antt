use Rattle.std.proofs.Common.{rules}
use Rattle.wi_devices.proofs.write_to.write_some.Goals as goal

pub returns-in-Ok-clause-some : goal.returns-in-Ok-clause-some
returns-in-Ok-clause-some g c = search rules
