use Rattle.wi_propagate.proofs.Words.{◌≤◌, ◌∙◌, Option, IfSome, IfOk-weaker, going, sym, subst, none_goes_before, Value, Key}
use Rattle.wi_propagate.proofs.ValuesAtHand.{space_for}
use Rattle.wi_propagate.proofs.keeping.make_space.Goals as goal

pub returns-then-is_full-clause-space : goal.returns-then-is_full-clause-space
returns-then-is_full-clause-space c = IfOk-weaker c.make_space.result _ _ (λ u h k. space_for (going c.args.kept.now k) c.make_space.new.self.space h) c.make_space.ensures.space

pub returns-clause-space : goal.returns-clause-space
returns-clause-space c = λ k. subst (λ (o : Option (Key × Value)). IfSome o (λ _. 1 ≤ c.args.given_up.now.space)) (sym (none_goes_before c.args.kept.now k (sym c.is_full.ensures ∙ c.if-is_full.false))) tt
