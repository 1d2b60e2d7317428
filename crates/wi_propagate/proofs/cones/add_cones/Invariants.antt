use Rattle.wi_propagate.proofs.Words.{◌≡◌, true, take, list_all, Sheet, is_known, AreEdgesOf, AreAllCones}
use Rattle.wi_propagate.proofs.cones.add_cones.Given as goal

-- the cones so far are right where those before were, and the replaced cells that were passed have one
abbrev pub invariant-loop-replacement : goal.invariant-loop-replacement
invariant-loop-replacement l =
    record {
      cones : (s : Sheet) → AreEdgesOf l.graph.now s → AreAllCones s l.fn.cones → AreAllCones s l.cones;
      all : list_all (λ r. is_known l.cones r.at) (take l.replacement-index l.replacement-items) ≡ true;
    }
