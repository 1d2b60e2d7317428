-- What a meter has counted.
use Rattle.std.specs.Prelude.{ℕ, ◌+◌, ◌-◌, ◌^◌, min}
use Rattle.wi_functions.specs.declared.evaluation.Outcome.{Outcome}
use Rattle.wi_functions.specs.declared.evaluation.Outcome.TheVariants.{Done, Needs}

-- the evaluations that were done, and those that have to start again
pub record Counts : Type 0 where
  pub evaluations : ℕ
  pub restarts : ℕ

-- one more of what was counted, up to the greatest number
abbrev pub one_more : ℕ → ℕ
one_more n = min (n + 1) (2 ^ 64 - 1)

-- an evaluation that is done, or one that has to start again, is counted
abbrev pub counted : Outcome → Counts → Counts
counted (Done v) c = record c { evaluations = one_more c.evaluations }
counted (Needs w) c = record c { restarts = one_more c.restarts }
