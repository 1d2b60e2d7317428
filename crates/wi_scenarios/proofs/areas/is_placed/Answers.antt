use Rattle.wi_scenarios.proofs.Words.{subst, ◌<◌, ℕ, rows}
use Rattle.wi_scenarios.proofs.OperandLemmas.{placed}
use Rattle.wi_scenarios.proofs.areas.is_placed.Goals as goal

pub returns : goal.returns
returns c = placed c.args.at (subst (λ (n : ℕ). n < rows) c.row.ensures.value c.row.ensures.within)
