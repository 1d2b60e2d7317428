use Rattle.wi_propagate.proofs.Words.{◌∙◌, List, All, subst, sym, IsPlanOf}
use Rattle.std.proofs.lemmas.List.Elements.{All-push}
use Rattle.wi_engine.specs.declared.plan.Plan.{Plan}
use Rattle.wi_propagate.proofs.plans.Plans.add.Goals as goal

pub returns-then-is_ok : goal.returns-then-is_ok
returns-then-is_ok c = λ s old plan.
    let P : Plan → Type 0 = λ p. IsPlanOf s p in
    let before : All P c.reserve.new.self.items = subst (λ (ps : List Plan). All P ps) (sym c.reserve.ensures.items) (c.make_space.ensures s old) in
    subst (λ (ps : List Plan). All P ps) (sym c.push_reserved.ensures.items) (All-push P c.reserve.new.self.items c.args.plan before plan)

pub returns-else-is_ok : goal.returns-else-is_ok
returns-else-is_ok c = λ s old plan. subst (λ (ps : List Plan). All (λ p. IsPlanOf s p) ps) (sym c.reserve.ensures.items) (c.make_space.ensures s old)
