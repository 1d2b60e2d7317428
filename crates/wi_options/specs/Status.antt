-- The status with which the program ends where its words give no options.
use Rattle.std.specs.Prelude.{ℕ}
use Rattle.wi_options.specs.declared.fault.OptionsFault.{OptionsFault}
use Rattle.wi_options.specs.declared.fault.OptionsFault.TheVariants.{Help, Version, Usage, Memory}

-- 0 after help or the version, 2 after wrong words, 5 without memory
abbrev pub options_status : OptionsFault → ℕ
options_status (Help _) = 0
options_status (Version _) = 0
options_status (Usage _) = 2
options_status Memory = 5
