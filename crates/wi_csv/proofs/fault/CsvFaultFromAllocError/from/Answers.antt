use Rattle.std.proofs.Common.{rules}
use Rattle.wi_csv.proofs.fault.CsvFaultFromAllocError.from.Goals as goal

pub returns : goal.returns
returns c = search rules
