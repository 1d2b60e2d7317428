use Rattle.wi_propagate.proofs.Words.{◌≡◌, List, ℕ, take, ap, sym, subst, ◌∙◌, arith, common_steps, put_all, replacements, cell_value, replaced_world, MayBeRead, MemoState, IsMemoOf}
use Rattle.wi_propagate.proofs.table_entry.inputs_at_hand.Goals as goal

pub value_at_hand-requires-clause-memo : goal.value_at_hand-requires-clause-memo
value_at_hand-requires-clause-memo g c = subst (λ (x : MemoState). IsMemoOf c.args.store.now.sheet x) (sym c.loop-pair.invariant.same) c.requires.memo

pub value_at_hand-requires-clause-read : goal.value_at_hand-requires-clause-read
value_at_hand-requires-clause-read g c =
    let s = c.args.store.now.sheet in
    let old = g.M.Memo.state c.args.question.now.memo in
    let there : MayBeRead s old c.pair-item.result.1 = subst (λ (p : ℕ × ℕ). MayBeRead s old p.1) (sym c.pair-item.is) (c.requires.replacing c.loop-pair.pair-index c.pair-item.result c.loop-pair-test.true) in
    subst (λ (x : MemoState). MayBeRead s x c.pair-item.result.1) (sym c.loop-pair.invariant.same) there

pub returns-clause-world : goal.returns-clause-world
returns-clause-world g c =
    let s = c.args.store.now.sheet in
    let w = c.args.world.now in
    let whole : take c.loop-pair.pair-index c.args.pairs.now ≡ c.args.pairs.now = grind (arith, common_steps) in
    let inputs = c.deref.ensures.value ∙ c.loop-pair.invariant.inputs ∙ ap (λ (ps : List (ℕ × ℕ)). replacements (cell_value (put_all s w)) ps) whole in
    replaced_world s w c.in_ok-with.field-0 c.deref.result.now c.args.pairs.now inputs c.in_ok-with.ensures.list
