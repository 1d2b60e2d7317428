use Rattle.std.proofs.Common.{arith}
use Rattle.wi_arguments.proofs.cells.successor.Goals as goal

pub at-requires-clause-column_within : goal.at-requires-clause-column_within
at-requires-clause-column_within c = omega arith
