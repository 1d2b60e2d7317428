use Rattle.std.specs.Io.KnownBytes.{Keeps}
use Rattle.wi_devices.proofs.read_from.read_some.Given as goal

-- nothing was taken
abbrev pub invariant-loop : goal.invariant-loop
invariant-loop g l = Keeps (g.R.Read.remaining l.initial.reader) (g.R.Read.remaining l.reader)
