use Rattle.wi_engine.proofs.Words.{◌≡◌, true, take}
use Rattle.wi_engine.specs.Inner.Plans.{AreGiven}
use Rattle.wi_engine.proofs.question.Question.are_given.Given as goal

abbrev pub invariant-loop-planned : goal.invariant-loop-planned
invariant-loop-planned g l =
    record {
      same : g.M.Memo.state l.self.memo ≡ g.M.Memo.state l.fn.self.memo;
      meter : l.self.meter ≡ l.fn.self.meter;
      given : AreGiven l.store.sheet (g.M.Memo.state l.fn.self.memo) l.world (take l.planned-index l.planned-items);
    }
