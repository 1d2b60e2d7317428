use Rattle.wi_propagate.proofs.Words.{◌≡◌, All, List, ℕ, Bool, take, ap, sym, refl, subst, ◌∙◌, arith, common_steps, IfOk-weaker, put_all, replacements, cell_value, IsSettled, HasReplacing, replaced_world, MayBeRead, WhereSpace, spends_then, spends_weaken, spends_err}
use Rattle.wi_propagate.proofs.EntryQuestions.{has_pair, more_settled}
use Rattle.wi_propagate.proofs.table_entry.with_inputs.Goals as goal

pub returns-clause-world : goal.returns-clause-world
returns-clause-world g c =
    let s = c.args.store.now.sheet in
    let w = c.args.world.now in
    let whole : take c.loop-pair.pair-index c.args.pairs.now ≡ c.args.pairs.now = grind (arith, common_steps) in
    let inputs = c.deref.ensures.value ∙ c.loop-pair.invariant.inputs ∙ ap (λ (ps : List (ℕ × ℕ)). replacements (cell_value (put_all s w)) ps) whole in
    IfOk-weaker c.with.result _ _ (λ v h. replaced_world s w v c.deref.result.now c.args.pairs.now inputs h) c.with.ensures.list

pub returns-clause-settled : goal.returns-clause-settled
returns-clause-settled g c =
    let s = c.args.store.now.sheet in
    let w = c.args.world.now in
    let whole : take c.loop-pair.pair-index c.args.pairs.now ≡ c.args.pairs.now = grind (arith, common_steps) in
    let there = subst (λ (ps : List (ℕ × ℕ)). WhereSpace s (HasReplacing s w c.args.pairs.now) (g.M.Memo.state c.args.question.now.memo) (λ ks. All (λ p. IsSettled s (g.M.Memo.state c.loop-pair.question.memo).kept w p.1) ps)) whole c.loop-pair.invariant.settled in
    IfOk-weaker c.with.result _ _ (λ v h. there) c.with.ensures.list

pub loop-pair-preserved : goal.loop-pair-preserved
loop-pair-preserved g c =
    let i = c.loop-pair.invariant in
    let v = c.in_ok-value.ensures in
    let shown : c.in_ok-value.value ≡ cell_value (put_all c.args.store.now.sheet c.args.world.now) c.pair-item.result.1 = search v.value in
    let less = c.loop-pair-test.true in
    record {
      inputs = grind (arith, common_steps);
      spends = spends_then (λ ks h. h) (has_pair c.args.store.now.sheet c.args.world.now c.args.pairs.now c.loop-pair.pair-index c.pair-item.result less c.pair-item.is) i.spends v.spends;
      settled = more_settled c.args.store.now.sheet c.args.world.now c.args.pairs.now c.loop-pair.pair-index c.pair-item.result less c.pair-item.is _ _ _ _ _ _ i.spends v.spends i.settled v.settled;
    }

pub returns-in_err-value-clause-spends : goal.returns-in_err-value-clause-spends
returns-in_err-value-clause-spends g c =
    spends_err c.from_residual.result c.from_residual.ensures.0 (spends_then (λ ks h. h) (has_pair c.args.store.now.sheet c.args.world.now c.args.pairs.now c.loop-pair.pair-index c.pair-item.result c.loop-pair-test.true c.pair-item.is) c.loop-pair.invariant.spends c.in_err-value.ensures.spends)

pub returns-in_err-push-clause-spends : goal.returns-in_err-push-clause-spends
returns-in_err-push-clause-spends g c =
    spends_err c.from_residual-in_err-push.result c.from_residual-in_err-push.ensures.0 (spends_then (λ ks h. h) (has_pair c.args.store.now.sheet c.args.world.now c.args.pairs.now c.loop-pair.pair-index c.pair-item.result c.loop-pair-test.true c.pair-item.is) c.loop-pair.invariant.spends c.in_ok-value.ensures.spends)

pub returns-clause-spends : goal.returns-clause-spends
returns-clause-spends g c = spends_weaken refl (λ ks h. h) (λ d. refl) c.loop-pair.invariant.spends

pub value-requires-clause-memo : goal.value-requires-clause-memo
value-requires-clause-memo g c = c.loop-pair.invariant.spends.right

pub value-requires-clause-read : goal.value-requires-clause-read
value-requires-clause-read g c =
    let s = c.args.store.now.sheet in
    let old = g.M.Memo.state c.args.question.now.memo in
    let pair = c.pair-item.result in
    let there : MayBeRead s old pair.1 = subst (λ (p : ℕ × ℕ). MayBeRead s old p.1) (sym c.pair-item.is) (c.requires.replacing c.loop-pair.pair-index pair c.loop-pair-test.true) in
    record {
      open_cell = there.open_cell;
      covered = λ h. ap (λ (cs : ℕ → Bool). cs pair.1) c.loop-pair.invariant.spends.same.covers ∙ there.covered h;
    }
