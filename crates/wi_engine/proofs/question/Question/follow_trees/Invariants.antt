use Rattle.wi_engine.proofs.Words.{◌≡◌, take}
use Rattle.wi_engine.proofs.plan.Following.{IsFollowing}
use Rattle.wi_engine.proofs.question.Question.follow_trees.Given as goal

abbrev pub invariant-loop-planned : goal.invariant-loop-planned
invariant-loop-planned g l =
    record {
      same : g.M.Memo.state l.self.memo ≡ g.M.Memo.state l.fn.self.memo;
      following : IsFollowing l.store.sheet l.world l.plan.root (take l.planned-index l.planned-items) l.found l.fn.self.meter l.self.meter;
    }
