use Rattle.std.proofs.Common.{rules}
use Rattle.wi_devices.proofs.read_from.ReadFromSource.read.Goals as goal

pub returns-clause-count : goal.returns-clause-count
returns-clause-count g c = search rules
