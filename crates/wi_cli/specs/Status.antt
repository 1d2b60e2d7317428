-- The status with which the program ends.
use Rattle.wi_cli.specs.Words.{ℕ, Result, Ok, Err, RunFault, Read, Write, ScriptLimit}
use Rattle.wi_cli.specs.declared.fault.RunFault.TheVariants.{Memory}

-- 3 where a device failed, 4 at the limit of lines, 5 without memory
abbrev pub status_of : RunFault → ℕ
status_of Read = 3
status_of Write = 3
status_of ScriptLimit = 4
status_of Memory = 5

-- 0 where the script was run to its end
abbrev pub exit_status : Result (Unit {0}) RunFault → ℕ
exit_status (Ok _) = 0
exit_status (Err fault) = status_of fault
