use Rattle.wi_worlds.proofs.Words.{subst, sym, arith, common_steps, IsSome, get, nat_cmp, Replacement}
use Rattle.wi_worlds.proofs.world.reached_cells.Goals as goal

pub is_reached-requires : goal.is_reached-requires
is_reached-requires c =
    subst (λ (r : Replacement). IsSome (get nat_cmp c.args.cones.now r.at)) (sym c.replacement-item.is)
    (c.requires.cones c.loop-replacement.replacement-index c.replacement-item.result c.loop-replacement-test.true)

pub loop-replacement-preserved : goal.loop-replacement-preserved
loop-replacement-preserved c = grind (arith, common_steps)
