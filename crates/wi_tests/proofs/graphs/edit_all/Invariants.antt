use Rattle.std.proofs.Common.{◌≡◌, None}
use Rattle.wi_tests.proofs.graphs.edit_all.Given as goal

-- no edit is staged
abbrev pub invariant-loop-each : goal.invariant-loop-each
invariant-loop-each g l = l.graph.staged ≡ None
