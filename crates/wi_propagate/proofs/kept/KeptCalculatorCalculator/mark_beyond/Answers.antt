use Rattle.wi_propagate.proofs.Words.{◌≡◌, ◌⊎◌, ◌&&◌, ◌∙◌, ℕ, not, true, IfOk, ap, subst, sym, and_parts, IfOk-weaker, is_one_of, in_cone, KeptSheet}
use Rattle.wi_propagate.proofs.KeptCones.{watch_closed, found_or_watched}
use Rattle.wi_propagate.proofs.kept.KeptCalculatorCalculator.mark_beyond.Goals as goal

pub cone_beyond-requires-clause-closed : goal.cone_beyond-requires-clause-closed
cone_beyond-requires-clause-closed g c =
    let i = c.self.inside in
    watch_closed i.graph.now i.store.sheet c.args.self.now.stored.sheet (g.W.Watch.watched c.args.watch.now) (ap (λ (k : KeptSheet). k.stored.sheet) c.self.view_is) c.self.invariant.1 c.requires

pub returns-clause-exact : goal.returns-clause-exact
returns-clause-exact g c =
    let w = g.W.Watch.watched c.args.watch.now in
    let whole : IfOk c.cone_beyond.result (λ found. (d : ℕ) → is_one_of found.items d ≡ (in_cone c.args.self.now.stored.sheet c.args.cells.now d && not (w d))) =
    subst (λ (k : KeptSheet). IfOk c.cone_beyond.result (λ found. (d : ℕ) → is_one_of found.items d ≡ (in_cone k.stored.sheet c.args.cells.now d && not (w d)))) c.self.view_is
    (IfOk-weaker c.cone_beyond.result _ _ (λ v h. h c.self.inside.store.sheet c.self.invariant.1) c.cone_beyond.ensures.cells) in
    search whole

pub returns-clause-marked : goal.returns-clause-marked
returns-clause-marked g c =
    let s = c.self.inside.store.sheet in
    subst (λ (k : KeptSheet). IfOk c.cone_beyond.result (λ found. (d : ℕ) → is_one_of found.items d ≡ true → in_cone k.stored.sheet c.args.cells.now d ≡ true)) c.self.view_is
    (IfOk-weaker c.cone_beyond.result _ _ (λ v h d m. (and_parts (in_cone s c.args.cells.now d) _ (sym (h s c.self.invariant.1 d) ∙ m)).0) c.cone_beyond.ensures.cells)

pub returns-clause-others : goal.returns-clause-others
returns-clause-others g c =
    let s = c.self.inside.store.sheet in
    let w = g.W.Watch.watched c.args.watch.now in
    subst (λ (k : KeptSheet). IfOk c.cone_beyond.result (λ found. (d : ℕ) → in_cone k.stored.sheet c.args.cells.now d ≡ true → (is_one_of found.items d ≡ true) ⊎ (w d ≡ true))) c.self.view_is
    (IfOk-weaker c.cone_beyond.result _ _ (λ v h d m. found_or_watched (is_one_of v.items d) (in_cone s c.args.cells.now d) (w d) (h s c.self.invariant.1 d) m) c.cone_beyond.ensures.cells)
