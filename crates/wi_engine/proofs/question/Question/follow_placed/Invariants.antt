use Rattle.wi_engine.proofs.Words.{◌≡◌, ◌++◌, ◌+◌, ◌≤◌, map, take, length, vec_capacity, put_all, cell_value}
use Rattle.wi_engine.specs.Inner.Placing.{cells_placed}
use Rattle.wi_engine.proofs.plan.Following.{IsCounted}
use Rattle.wi_engine.proofs.question.Question.follow_placed.Given as goal

-- the values so far are those of the inputs and of the cells before
abbrev pub invariant-loop-cell : goal.invariant-loop-cell
invariant-loop-cell g l =
    record {
      same : g.M.Memo.state l.self.memo ≡ g.M.Memo.state l.fn.self.memo;
      counted : IsCounted l.store.sheet l.world l.plan.root (take l.cell-index (map (λ c. c.planned) l.cell-items)) l.fn.self.meter l.self.meter;
      values : map (cell_value (put_all l.store.sheet l.world)) (l.plan.inputs.items ++ cells_placed (take l.cell-index l.cell-items)) ≡ l.found.items;
      room : length l.cell-items + length l.found.items ≤ l.cell-index + vec_capacity l.found;
    }
