use Rattle.std.proofs.Common.{rules}
use Rattle.wi_options.proofs.command.keep_arg.Goals as goal

pub returns : goal.returns
returns c = search rules
