use Rattle.std.proofs.Common.{rules}
use Rattle.wi_devices.proofs.read_from.ReadFrom.new.Goals as goal

pub returns-clause-left : goal.returns-clause-left
returns-clause-left g c = search rules
