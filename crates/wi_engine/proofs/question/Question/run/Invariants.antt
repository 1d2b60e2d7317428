use Rattle.wi_engine.proofs.Words.{◌+◌, ◌*◌, length, cells_with_formula, demand, left, reach_rank, case_at}
use Rattle.wi_engine.proofs.engine.StackedRuns.{IsGoingOver}
use Rattle.wi_engine.proofs.question.Question.run.Given as goal

abbrev pub invariant-frames : goal.invariant-frames
invariant-frames g l = IsGoingOver l.store.sheet (g.M.Memo.state l.fn.self.memo) (g.M.Memo.state l.self.memo) (case_at l.fn.key) l.fn.self.meter l.self.meter l.stack.frames l.frame

-- the cases of the demand that are not found, and the rank of the frame at the top
abbrev pub decreases-frames : goal.decreases-frames
decreases-frames g l =
    left (λ k. 1) (g.M.Memo.state l.self.memo).found (demand l.store.sheet (case_at l.fn.key)) * (length (cells_with_formula l.store.sheet) + 2)
    + reach_rank l.store.sheet l.frame.key.cell
