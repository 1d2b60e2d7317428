use Rattle.std.proofs.Common.{rules}
use Rattle.wi_csv.proofs.fault.CsvFaultFromCsvError.from.Goals as goal

pub returns-in-OutOfMemory : goal.returns-in-OutOfMemory
returns-in-OutOfMemory c = search rules
