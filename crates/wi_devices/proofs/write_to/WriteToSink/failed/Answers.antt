use Rattle.std.proofs.Common.{rules}
use Rattle.wi_devices.proofs.write_to.WriteToSink.failed.Goals as goal

pub returns : goal.returns
returns g c = search rules
