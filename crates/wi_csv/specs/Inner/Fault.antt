-- Why a text isn't read.
use Rattle.csv.specs.declared.error.ErrorKind.{ErrorKind}
use Rattle.csv.specs.declared.error.ErrorKind.TheVariants as kind
use Rattle.wi_csv.specs.declared.fault.CsvFault.{CsvFault}
use Rattle.wi_csv.specs.declared.fault.CsvFault.TheVariants.{Read, Memory}

-- the fault that stands for an error of `csv`
abbrev pub fault_of : ErrorKind → CsvFault
fault_of kind.OutOfMemory = Memory
fault_of (kind.Io e) = Read
fault_of (kind.Utf8 pos err) = Read
fault_of (kind.UnequalLengths pos expected len) = Read
fault_of (kind.Serialize text) = Read
fault_of (kind.Deserialize pos err) = Read
