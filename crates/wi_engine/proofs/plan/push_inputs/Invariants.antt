use Rattle.wi_engine.proofs.Words.{◌≡◌, map, take, Sheet, put_all, cell_value}
use Rattle.wi_engine.proofs.plan.push_inputs.Given as goal

abbrev pub invariant-loop-input : goal.invariant-loop-input
invariant-loop-input l = (s : Sheet) → map (cell_value (put_all s l.world)) (take l.input-index l.input-items) ≡ l.found.items
