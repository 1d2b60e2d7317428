use Rattle.std.proofs.Common.{rules}
use Rattle.wi_arguments.proofs.lookup.Lookup.next_filled.Goals as goal

pub returns-in-Some : goal.returns-in-Some
returns-in-Some g c = search rules
