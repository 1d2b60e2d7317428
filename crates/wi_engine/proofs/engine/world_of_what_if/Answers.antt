use Rattle.wi_engine.proofs.Words.{◌≡◌, All, List, map, take, take_all, ap, subst, ◌∙◌, arith, rules, All-more, Pair, pair_of, put_all, addresses, replacements, cell_value, replaced_world, IsSettled, one_more_input}
use Rattle.wi_engine.proofs.engine.Waits.{input_unvalued}
use Rattle.wi_engine.proofs.engine.SettledFindings.{settled_now}
use Rattle.wi_engine.proofs.engine.world_of_what_if.Goals as goal

pub loop-pair-preserved : goal.loop-pair-preserved
loop-pair-preserved g c =
    let s = c.args.store.now.sheet in
    let m = g.M.Memo.state c.args.memo.now in
    let w = c.args.world.now in
    let i = c.loop-pair.invariant in
    let shown = rw c.in-Ready.is at c.in_ok-value.ensures.asked in
    let P : Pair → Type 0 = λ p. IsSettled s m.kept w p.replacement.at in
    record {
      inputs = one_more_input s w c.args.pairs.now c.loop-pair.pair-index c.pair-item.result c.in-Ready.value c.loop-pair.inputs.items _ c.loop-pair-test.true c.pair-item.is i.inputs (search shown.value) (search rules);
      settled = λ whole. All-more P c.args.pairs.now c.loop-pair.pair-index c.pair-item.result c.loop-pair-test.true (i.settled whole) (subst P c.pair-item.is (settled_now s m (g.M.Memo.state c.loop-pair.memo) w c.pair-item.result.replacement.at c.requires.memo i.same whole shown.easy));
      same = c.in_ok-value.ensures.same ∙ i.same;
    }

pub returns-in-First-clause-inputs : goal.returns-in-First-clause-inputs
returns-in-First-clause-inputs g c =
    input_unvalued c.args.store.now.sheet (g.M.Memo.state c.args.memo.now) (g.M.Memo.state c.loop-pair.memo) c.args.world.now c.args.pairs.now c.loop-pair.pair-index c.pair-item.result c.in-First.input
    c.loop-pair-test.true c.pair-item.is c.loop-pair.invariant.same (rw c.in-First.is at c.in_ok-value.ensures.asked)

pub returns-clause-inputs : goal.returns-clause-inputs
returns-clause-inputs g c =
    let s = c.args.store.now.sheet in
    let w = c.args.world.now in
    let all : take c.loop-pair.pair-index c.args.pairs.now ≡ c.args.pairs.now = take_all c.loop-pair.pair-index c.args.pairs.now (omega (arith, c.loop-pair-test.false)) in
    let inputs = c.deref.ensures.value ∙ c.loop-pair.invariant.inputs ∙ ap (λ (ps : List Pair). replacements (cell_value (put_all s w)) (map addresses (map pair_of ps))) all in
    record {
      world = replaced_world s w c.in_ok-with.field-0 c.deref.result.now (map addresses (map pair_of c.args.pairs.now)) inputs (search c.in_ok-with.ensures.list);
      settled = λ whole. subst (All (λ p. IsSettled s (g.M.Memo.state c.args.memo.now).kept w p.replacement.at)) all (c.loop-pair.invariant.settled whole);
    }
