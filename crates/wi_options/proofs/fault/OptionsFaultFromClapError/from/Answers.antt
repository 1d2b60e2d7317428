use Rattle.std.proofs.Common.{rules}
use Rattle.wi_options.proofs.fault.OptionsFaultFromClapError.from.Goals as goal

pub returns-in-DisplayHelp : goal.returns-in-DisplayHelp
returns-in-DisplayHelp c = search rules
