use Rattle.wi_scenarios.proofs.Words.{◌≡◌, length, ap, arith, common_steps, nil_from_length}
use Rattle.wi_scenarios.proofs.scenario.put.Goals as goal

pub put_text-requires-clause-some : goal.put_text-requires-clause-some
put_text-requires-clause-some g c = λ e. let some : length c.args.content.now ≡ 0 → ⊥ = grind (arith, common_steps) in some (ap length e)

pub returns-then-is_empty : goal.returns-then-is_empty
returns-then-is_empty g c =
    let none : length c.args.content.now ≡ 0 = grind (arith, common_steps) in
    rw (nil_from_length c.args.content.now none) c.take_away.ensures
