use Rattle.wi_propagate.proofs.Words.{◌∙◌, Option, Box, ap, sym, subst, AreAllCones, Carried, values_in, AreCarriedCones}
use Rattle.wi_propagate.proofs.carried.take_carried.Goals as goal

pub returns-clause-values : goal.returns-clause-values
returns-clause-values c = ap (λ (h : Carried). h.kept) c.deref_mut-inner.ensures.value ∙ ap values_in c.in-Some.ensures.value

pub returns-clause-cones : goal.returns-clause-cones
returns-clause-cones c = λ s h. c.keep_if_few.ensures s (subst (λ (h : Carried). AreAllCones s h.cones) (sym c.deref_mut-inner.ensures.value) (subst (λ (o : Option (Box Carried)). AreCarriedCones s o) (sym c.in-Some.ensures.value) h))
