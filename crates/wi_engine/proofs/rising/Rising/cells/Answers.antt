use Rattle.wi_engine.proofs.Words.{List, ℕ, subst, nat_cmp, IsStrictlySortedBy, keys_of, Value}
use Rattle.wi_engine.proofs.rising.Rising.cells.Goals as goal

pub returns-clause-order : goal.returns-clause-order
returns-clause-order c = subst (λ (es : List (ℕ × Value)). IsStrictlySortedBy nat_cmp (keys_of es)) c.self.view_is c.self.invariant
