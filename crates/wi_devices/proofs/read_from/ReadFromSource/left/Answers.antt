use Rattle.std.proofs.Common.{rules}
use Rattle.wi_devices.proofs.read_from.ReadFromSource.left.Goals as goal

pub returns : goal.returns
returns g c = search rules
