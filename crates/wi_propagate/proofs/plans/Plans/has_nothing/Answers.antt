use Rattle.wi_propagate.proofs.Words.{◌≡◌, List, All, length, sym, subst, arith, common_steps, nil_from_length, All-nil, IsPlanOf}
use Rattle.wi_engine.specs.declared.plan.Plan.{Plan}
use Rattle.wi_propagate.proofs.plans.Plans.has_nothing.Goals as goal

pub returns-then-is_empty : goal.returns-then-is_empty
returns-then-is_empty c = λ r s.
    let P : Plan → Type 0 = λ p. IsPlanOf s p in
    let none : length c.args.self.now.plans.items ≡ 0 = grind (arith, common_steps) in
    subst (λ (ps : List Plan). All P ps) (sym (nil_from_length c.args.self.now.plans.items none)) (All-nil P)
