use Rattle.std.proofs.Common.{rules}
use Rattle.wi_options.proofs.fault.options_status.Goals as goal

pub returns-in-Usage : goal.returns-in-Usage
returns-in-Usage c = search rules
