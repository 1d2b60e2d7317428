use Rattle.wi_import.proofs.Words.{rules}
use Rattle.wi_import.proofs.fault.ImportFaultFromCsvFault.from.Goals as goal

pub returns : goal.returns
returns c = search rules
