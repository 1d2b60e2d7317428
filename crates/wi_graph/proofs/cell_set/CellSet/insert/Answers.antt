use Rattle.wi_graph.proofs.Words.{ℕ, true, sym, subst, IfOk-from_err, nat_cmp, BTreeSet, Updates, AreWithin}
use Rattle.wi_graph.proofs.BoundsSteps.{gains_within, same_within}
use Rattle.wi_graph.proofs.cell_set.CellSet.insert.Goals as goal

pub invariant_of-self : goal.invariant_of-self
invariant_of-self c = same_within c.self.inside.set c.insert.new.self c.self.inside.around c.in_err-insert.ensures.err c.self.invariant

pub invariant_of-self-2 : goal.invariant_of-self-2
invariant_of-self-2 c =
    let others = subst (AreWithin c.around_with-around.result) (sym c.self.view_is) c.around_with-around.ensures.others in
    gains_within c.self.inside.set c.insert.new.self c.around_with-around.result c.args.cell c.in_ok-insert.ensures.updates.0 c.around_with-around.ensures.cell others

pub returns-in_err-insert-clause-updates : goal.returns-in_err-insert-clause-updates
returns-in_err-insert-clause-updates c = IfOk-from_err c.from_residual.result _ c.from_residual.ensures.0

pub returns-clause-updates : goal.returns-clause-updates
returns-clause-updates c = subst (λ (s : BTreeSet ℕ). Updates nat_cmp s c.insert.new.self c.args.cell true) c.self.view_is c.in_ok-insert.ensures.updates

pub returns-clause-err : goal.returns-clause-err
returns-clause-err c = tt
