use Rattle.wi_engine.proofs.Words.{◌≡◌, ◌∙◌, map, take, ap, sym, arith, common_steps, rules, Sheet, constant, content_of, put_all, cell_value}
use Rattle.wi_engine.proofs.plan.PlacedCells.{one_more_put}
use Rattle.wi_engine.proofs.plan.push_inputs.Goals as goal

pub loop-input-preserved : goal.loop-input-preserved
loop-input-preserved c =
    let put : (s : Sheet) → content_of (put_all s c.args.world.now) c.input-item.result ≡ constant c.in-Some.value.now = search rules in
    one_more_put c.args.world.now c.deref-input-items.result.now c.loop-input.input-index c.input-item.result c.in-Some.value.now c.in_ok-copy.field-0 c.loop-input.found.items c.push.new.self.items c.loop-input-test.true c.input-item.is put c.in_ok-copy.ensures c.in_ok-push.ensures.items c.loop-input.invariant

pub returns : goal.returns
returns c = λ s.
    let whole : take c.loop-input.input-index c.deref-input-items.result.now ≡ c.deref-input-items.result.now = grind (arith, common_steps) in
    ap (map (cell_value (put_all s c.args.world.now))) (sym (whole ∙ c.deref-input-items.ensures.value)) ∙ c.loop-input.invariant s
