use Rattle.wi_graph.proofs.Words.{◌≡◌, ◌+◌, ℕ, false, subst, if◌then◌else◌, nat_cmp, BTreeSet, btree_set_len, contains, Updates}
use Rattle.wi_graph.proofs.BoundsSteps.{loses_within}
use Rattle.wi_graph.proofs.cell_set.CellSet.remove.Goals as goal

pub invariant_of-self : goal.invariant_of-self
invariant_of-self c = loses_within c.self.inside.set c.remove.new.self c.self.inside.around c.args.cell.now c.remove.ensures.updates.0 c.self.invariant

pub returns-clause-test : goal.returns-clause-test
returns-clause-test c = subst (λ (s : BTreeSet ℕ). c.remove.result ≡ contains nat_cmp s c.args.cell.now) c.self.view_is c.remove.ensures.test

pub returns-clause-updates : goal.returns-clause-updates
returns-clause-updates c = subst (λ (s : BTreeSet ℕ). Updates nat_cmp s c.remove.new.self c.args.cell.now false) c.self.view_is c.remove.ensures.updates

pub returns-clause-len : goal.returns-clause-len
returns-clause-len c = subst (λ (s : BTreeSet ℕ). btree_set_len c.remove.new.self + (if c.remove.result then 1 else 0) ≡ btree_set_len s) c.self.view_is c.remove.ensures.len
