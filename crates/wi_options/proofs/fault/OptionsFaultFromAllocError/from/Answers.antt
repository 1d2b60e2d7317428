use Rattle.std.proofs.Common.{rules}
use Rattle.wi_options.proofs.fault.OptionsFaultFromAllocError.from.Goals as goal

pub returns : goal.returns
returns c = search rules
