-- Two scripts that are run in turn on one workbook.
use Rattle.std.specs.Prelude.{◌≡◌}
use Rattle.wi_cli.specs.Words.{Bool, Option, Result, Err, MatchResult, State, RunFault, Bytes}
use Rattle.wi_cli.specs.Outcome.{IsRun}

-- The first script is run, and the second from the state and the sink that the first left. After a fault in the first
-- that fault is the outcome, and nothing is read of the second.
pub record RunInTurn {L R W : Type 0} (remaining₁ : L → Option Bytes) (failed₁ : L → Bool) (remaining₂ : R → Option Bytes)
    (failed₂ : R → Bool) (contents : W → Option Bytes) (write_failed flushed : W → Bool) (r : Result (Unit {0}) RunFault)
    (one one' : L) (two two' : R) (sink sink' : W) (s t : State) : Type 0 where
  pub first : Result (Unit {0}) RunFault
  pub between : W
  pub mid : State
  pub is_run : IsRun remaining₁ failed₁ contents write_failed flushed first one one' sink between s mid
  pub goes_on : MatchResult first (λ _. IsRun remaining₂ failed₂ contents write_failed flushed r two two' between sink' mid t)
      (λ fault. (r ≡ Err fault) × (two' ≡ two) × (sink' ≡ between) × (t ≡ mid))
