-- Which words give no options, and why.
use Rattle.std.specs.Prelude.{◌≡◌, ⊤, Bool, List, String}
use Rattle.std.specs.Global.{Global}
use Rattle.clap.specs.Words.{IsAmong, Kinds, fault_of, kind_of, takes}
use Rattle.clap.specs.declared.error.Error.{Error}
use Rattle.clap.specs.declared.error.kind.ErrorKind.{ErrorKind}
use Rattle.clap.specs.declared.error.kind.ErrorKind.TheVariants.{DisplayHelp, DisplayVersion, OutOfMemory}
use Rattle.wi_options.specs.Stated.{spelled, whatif}
use Rattle.wi_options.specs.declared.fault.OptionsFault.{OptionsFault}
use Rattle.wi_options.specs.declared.fault.OptionsFault.TheVariants.{Help, Version, Usage, Memory}

-- whether clap takes the words
unfoldable pub is_taken : List (String Global) → Bool
is_taken words = takes whatif (spelled words)

-- what clap finds first in the words that it doesn't take, such as a call for help
unfoldable pub found_amiss : List (String Global) → Kinds
found_amiss words = fault_of whatif (spelled words)

-- the fault by the kind of clap's error
abbrev pub fault_by : ErrorKind → Error → OptionsFault
fault_by OutOfMemory error = Memory
fault_by DisplayHelp error = Help error
fault_by DisplayVersion error = Version error
fault_by _ error = Usage error

-- the words are refused for this fault: memory may always be short, and else it is what clap finds amiss,
-- Help where that is a call for help
abbrev pub AreRefusedFor : List (String Global) → OptionsFault → Type 0
AreRefusedFor words Memory = ⊤
AreRefusedFor words (Help error) = (kind_of error ≡ DisplayHelp) × IsAmong (kind_of error) (found_amiss words)
AreRefusedFor words (Version error) = (kind_of error ≡ DisplayVersion) × IsAmong (kind_of error) (found_amiss words)
AreRefusedFor words (Usage error) = (kind_of error ≡ DisplayHelp → ⊥) × (kind_of error ≡ DisplayVersion → ⊥) × IsAmong (kind_of error) (found_amiss words)
