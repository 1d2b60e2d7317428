use Rattle.wi_sessions.proofs.Words.{ℕ, Option, ap, sym, ◌∙◌, unwrap_or, has_bit}
use Rattle.wi_sessions.proofs.cells.word_of.Goals as goal

pub returns-in-Some : goal.returns-in-Some
returns-in-Some c = λ i. ap (λ (o : Option ℕ). has_bit i (unwrap_or o 0)) (sym c.in-Some.is ∙ c.found.ensures)

pub returns-in-None : goal.returns-in-None
returns-in-None c = λ i. ap (λ (o : Option ℕ). has_bit i (unwrap_or o 0)) (sym c.in-None.is ∙ c.found.ensures)
