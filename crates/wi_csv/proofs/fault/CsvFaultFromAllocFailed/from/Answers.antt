use Rattle.std.proofs.Common.{rules}
use Rattle.wi_csv.proofs.fault.CsvFaultFromAllocFailed.from.Goals as goal

pub returns : goal.returns
returns g c = search rules
