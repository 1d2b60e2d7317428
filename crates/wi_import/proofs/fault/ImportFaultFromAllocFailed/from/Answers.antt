use Rattle.wi_import.proofs.Words.{rules}
use Rattle.wi_import.proofs.fault.ImportFaultFromAllocFailed.from.Goals as goal

pub returns : goal.returns
returns g c = search rules
