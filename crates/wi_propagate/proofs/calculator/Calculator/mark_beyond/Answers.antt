use Rattle.wi_propagate.proofs.Words.{◌∙◌, inl, sym, ap, ℕ, List, is_one_of}
use Rattle.wi_propagate.proofs.calculator.Calculator.mark_beyond.Goals as goal

pub returns-clause-marked : goal.returns-clause-marked
returns-clause-marked g c = λ d m. sym (c.in_ok-found.ensures.marked d) ∙ ap (λ (xs : List ℕ). is_one_of xs d) (sym c.from_vec.ensures.items) ∙ m

pub returns-clause-others : goal.returns-clause-others
returns-clause-others g c = λ d m. inl (ap (λ (xs : List ℕ). is_one_of xs d) c.from_vec.ensures.items ∙ c.in_ok-found.ensures.marked d ∙ m)
