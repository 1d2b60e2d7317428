use Rattle.wi_propagate.proofs.Words.{ℕ, Option, subst, sym, AreStamped, IsHeadOf, Stamps}
use Rattle.wi_propagate.proofs.generations.Generations.flush.Goals as goal

pub flush_cell-requires-clause-dirty : goal.flush_cell-requires-clause-dirty
flush_cell-requires-clause-dirty c = λ s a. (subst (AreStamped s) (sym c.self.view_is) (c.requires.stamped s a)).dirty

pub flush_cell-requires-clause-head : goal.flush_cell-requires-clause-head
flush_cell-requires-clause-head c = λ s a. (subst (AreStamped s) (sym c.self.view_is) (c.requires.stamped s a)).head

pub flush_all-requires-clause-dirty : goal.flush_all-requires-clause-dirty
flush_all-requires-clause-dirty c = λ s a. (subst (AreStamped s) (sym c.self.view_is) (c.requires.stamped s a)).dirty

pub returns-in-Some-clause-stamped : goal.returns-in-Some-clause-stamped
returns-in-Some-clause-stamped c = λ s a. record { dirty = c.flush_cell.ensures.dirty s a; head = c.flush_cell.ensures.head s a }

pub returns-in-None-clause-stamped : goal.returns-in-None-clause-stamped
returns-in-None-clause-stamped c = λ s a. record { dirty = c.flush_all.ensures.dirty s a; head = subst (λ (o : Option ℕ). IsHeadOf s o c.flush_all.new.valid_since.cone) (sym c.flush_all.ensures.head) (tt {0}) }
