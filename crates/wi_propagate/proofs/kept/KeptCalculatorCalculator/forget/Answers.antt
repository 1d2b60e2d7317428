use Rattle.wi_propagate.proofs.Words.{◌≡◌, ◌∙◌, ap, sym, subst, Stored, kept_sheet, flushed, emptied}
use Rattle.wi_propagate.proofs.Questions.{AlwaysPlans, but_plans, emptied_view, holds_emptied, with_plans}
use Rattle.wi_propagate.proofs.kept.KeptCalculatorCalculator.forget.Goals as goal

pub invariant_of-self : goal.invariant_of-self
invariant_of-self c =
    let i = c.self.inside in
    let e = c.forget_carried.ensures in
    subst (λ (s : Stored). AlwaysPlans c.forget_carried.new.carried i.graph s i.generations i.meter c.forget.new.self) (sym c.forget_indexes.ensures)
    (with_plans c.forget_carried.new.carried i.graph i.store i.generations i.meter c.forget.new.self (holds_emptied i.carried c.forget_carried.new.carried e.values i.store i.meter i.graph i.generations e.there (e.cones i.store.sheet) (but_plans i.carried i.graph i.store i.generations i.meter i.plans c.self.invariant)) (c.forget.ensures i.store.sheet))

pub returns : goal.returns
returns c =
    let i = c.self.inside in
    subst (λ (s : Stored). kept_sheet s (flushed s.sheet i.generations.edited_at) c.forget_carried.new.carried i.meter ≡ emptied c.args.self.now) (sym c.forget_indexes.ensures)
    (emptied_view i.carried c.forget_carried.new.carried c.forget_carried.ensures.values i.store i.meter (flushed i.store.sheet i.generations.edited_at) ∙ ap emptied c.self.view_is)
