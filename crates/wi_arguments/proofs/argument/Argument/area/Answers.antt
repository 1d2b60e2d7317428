use Rattle.std.proofs.Common.{rules}
use Rattle.wi_arguments.proofs.argument.Argument.area.Goals as goal

pub returns-in-Reference : goal.returns-in-Reference
returns-in-Reference c = search rules
