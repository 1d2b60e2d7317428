use Rattle.wi_propagate.proofs.Words.{◌≡◌, ◌∙◌, ℕ, false, IfOk, subst, sym, IfOk-weaker, is_one_of, in_cone, IsUnmoved, outside_unmoved, KeptSheet}
use Rattle.wi_propagate.proofs.kept.KeptCalculatorCalculator.mark.Goals as goal

pub returns-clause-marked : goal.returns-clause-marked
returns-clause-marked c =
    subst (λ (k : KeptSheet). IfOk c.cone.result (λ found. (d : ℕ) → is_one_of found.items d ≡ in_cone k.stored.sheet c.args.cells.now d)) c.self.view_is
    (IfOk-weaker c.cone.result _ _ (λ v h. h c.self.inside.store.sheet c.self.invariant.1) c.cone.ensures.cells)

pub returns-clause-unmoved : goal.returns-clause-unmoved
returns-clause-unmoved c =
    let s = c.self.inside.store.sheet in
    subst (λ (k : KeptSheet). IfOk c.cone.result (λ found. (d : ℕ) → is_one_of found.items d ≡ false → IsUnmoved k.stored.sheet c.args.cells.now d)) c.self.view_is
    (IfOk-weaker c.cone.result _ _ (λ v h d n. outside_unmoved s c.args.cells.now d (sym (h s c.self.invariant.1 d) ∙ n)) c.cone.ensures.cells)
