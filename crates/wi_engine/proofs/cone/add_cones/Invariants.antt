use Rattle.wi_engine.proofs.Words.{All, IsSome, take, nat_cmp, get, AreCones}
use Rattle.wi_engine.proofs.cone.add_cones.Given as goal

abbrev pub invariant-loop-replacement : goal.invariant-loop-replacement
invariant-loop-replacement l =
    record {
      cones : AreCones l.store.sheet l.order l.cones;
      all : All (λ r. IsSome (get nat_cmp l.cones r.at)) (take l.replacement-index l.replacement-items);
    }
